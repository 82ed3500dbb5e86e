-- What is told of some bytes, and then of some more, is told of them all.
use Rattle.std.proofs.Common.{◌≡◌, ℕ, List, [], ◌∷◌, ◌++◌, Some, None, sym, refl, ap, ◌∙◌, subst, append_assoc}
use Rattle.std.proofs.lemmas.List.{append-nil}
use Rattle.script.specs.Lines.{line_of}
use Rattle.script.specs.Splits.{ended}
use Rattle.script.specs.Splitters.{Holds}
use Rattle.script.specs.declared.split.Splitter.{Splitter}
use Rattle.script.specs.declared.report.Report.{Report}
use Rattle.session.specs.declared.session.Session.{Session}
use Rattle.session.specs.Scripts.{Adds, AnswersAll, AnswersText, PiecesMakeTheWhole, Tells, TellsAll, TellsLast, TellsRest, TellsScript, Writes, lines_of}

-- ---- records one after another

lines_append : (xs ys : List Report) → lines_of (xs ++ ys) ≡ lines_of xs ++ lines_of ys
lines_append [] ys = refl
lines_append (x ∷ xs) ys = ap (λ l. line_of x ++ l) (lines_append xs ys) ∙ sym (append_assoc (line_of x) (lines_of xs) (lines_of ys))

answers_append : (texts more : List (List ℕ)) (a b c : Session) (xs ys : List Report)
    → AnswersAll a texts xs b → AnswersAll b more ys c → AnswersAll a (texts ++ more) (xs ++ ys) c
answers_append [] more a b c xs ys (none, same) y =
    subst (λ l. AnswersAll a more (l ++ ys) c) (sym none) (subst (λ s. AnswersAll s more ys c) same y)
answers_append (text ∷ texts) more a b c xs ys (x, rest, between, is, one, all) y =
    (x, rest ++ ys, between, ap (λ l. l ++ ys) is, one, answers_append texts more between b c rest ys all y)

writes_append : (texts more : List (List ℕ)) (a b c : Session) (u v : List ℕ) → Writes texts a u b → Writes more b v c → Writes (texts ++ more) a (u ++ v) c
writes_append texts more a b c u v x y = record {
  reports = x.reports ++ y.reports;
  answers = answers_append texts more a b c x.reports y.reports x.answers y.answers;
  lines_are = ap (λ l. l ++ v) x.lines_are ∙ ap (λ l. lines_of x.reports ++ l) y.lines_are ∙ sym (lines_append x.reports y.reports);
}

writes_none : (before after : Session) → after ≡ before → Writes [] before [] after
writes_none before after same = record { reports = []; answers = (refl, same); lines_are = refl }

writes_one : (text : List ℕ) (before after : Session) (report : Report) → AnswersText before text report after → Writes (text ∷ []) before (line_of report) after
writes_one text before after report a = record { reports = report ∷ []; answers = (report, [], after, refl, a, (refl, refl)); lines_are = sym (append-nil (line_of report)) }

-- ---- bytes one after another

pub told_none : (past : List ℕ) (byte : ℕ) (before after : Session) (text : List ℕ) → Tells past byte before None after
    → Adds text text (λ lines. TellsAll past (byte ∷ []) before lines after)
told_none past byte before after text t = ([], sym (append-nil text), ([], t.0 ∙ sym (append-nil (ended past)), writes_none before after t.1))

pub told_one : (past : List ℕ) (byte : ℕ) (before after : Session) (text longer : List ℕ) (report : Report) → Tells past byte before (Some report) after
    → longer ≡ text ++ line_of report → Adds text longer (λ lines. TellsAll past (byte ∷ []) before lines after)
told_one past byte before after text longer report t e = (line_of report, e, (t.0 ∷ [], t.1, writes_one t.0 before after report t.2))

pub rest_one : (past : List ℕ) (before after : Session) (text longer : List ℕ) (report : Report) → TellsLast past before (Some report) after
    → longer ≡ text ++ line_of report → Adds text longer (λ lines. TellsRest past before lines after)
rest_one past before after text longer report t e = (line_of report, e, (_, t.0, writes_one _ before after report t.1))

pub rest_none : (past : List ℕ) (before after : Session) (text : List ℕ) → TellsLast past before None after → Adds text text (λ lines. TellsRest past before lines after)
rest_none past before after text t = ([], sym (append-nil text), ([], t.0 ∙ sym (append-nil (ended past)), writes_none before after t.1))

pub held_more : (s : Splitter) (past seen : List ℕ) (byte : ℕ) → Holds s ((past ++ seen) ++ byte ∷ []) → Holds s (past ++ (seen ++ byte ∷ []))
held_more s past seen byte h = subst (Holds s) (append_assoc past seen (byte ∷ [])) h

told_more : (past xs ys : List ℕ) (a b c : Session) (u v : List ℕ) → TellsAll past xs a u b → TellsAll (past ++ xs) ys b v c → TellsAll past (xs ++ ys) a (u ++ v) c
told_more past xs ys a b c u v x y = (
  x.0 ++ y.0,
  ap ended (sym (append_assoc past xs ys)) ∙ y.1 ∙ ap (λ l. l ++ y.0) x.1 ∙ append_assoc (ended past) x.0 y.0,
  writes_append x.0 y.0 a b c u v x.2 y.2,
)

pub added_more : (past xs ys : List ℕ) (a b c : Session) (t u v : List ℕ)
    → Adds t u (λ lines. TellsAll past xs a lines b) → Adds u v (λ lines. TellsAll (past ++ xs) ys b lines c) → Adds t v (λ lines. TellsAll past (xs ++ ys) a lines c)
added_more past xs ys a b c t u v x y =
    (x.0 ++ y.0, y.1 ∙ ap (λ l. l ++ y.0) x.1 ∙ append_assoc t x.0 y.0, told_more past xs ys a b c x.0 y.0 x.2 y.2)

-- ---- a whole script

told_whole : (script : List ℕ) (a b c : Session) (u v : List ℕ) → TellsAll [] script a u b → TellsRest script b v c → TellsScript script a (u ++ v) c
told_whole script a b c u v x y =
    subst (λ texts. Writes texts a (u ++ v) c) (sym (y.1 ∙ ap (λ l. l ++ y.0) x.1)) (writes_append x.0 y.0 a b c u v x.2 y.2)

pub pieces_make_the_whole : PiecesMakeTheWhole
pieces_make_the_whole = record { pieces = told_more; whole = told_whole }
