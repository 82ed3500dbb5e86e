use Rattle.std.proofs.Common.{ℕ, List, ◌++◌, take, string_bytes}
use Rattle.script.specs.Splitters.{Holds}
use Rattle.session.specs.Scripts.{Adds, TellsAll}
use Rattle.session.proofs.run.tell_all.Given as goal

abbrev pub invariant-loop-byte : goal.invariant-loop-byte
invariant-loop-byte l = (past : List ℕ) → Holds l.initial.splitter past
    → Holds l.splitter (past ++ take l.byte-index l.bytes)
    × Adds (string_bytes l.initial.text) (string_bytes l.text) (λ lines. TellsAll past (take l.byte-index l.bytes) l.initial.session lines l.session)
