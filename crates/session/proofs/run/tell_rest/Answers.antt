use Rattle.session.proofs.Telling.{pieces_make_the_whole}
use Rattle.session.proofs.run.tell_rest.Goals as goal

pub returns-clause-whole : goal.returns-clause-whole
returns-clause-whole c = pieces_make_the_whole
