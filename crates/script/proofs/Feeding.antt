-- What a splitter holds after one more byte.
use Rattle.std.proofs.Common.{Bor, Option, Some, None, MatchOption, nat_le, ◌≡◌, ℕ, ◌+◌, ◌-◌, ◌<◌, ◌≤◌, min, true, false, ◌&&◌, eqb, List, [], ◌∷◌, ◌++◌, length, take, set, refl, sym, ap, ◌∙◌, subst, inl, inr, arith}
use Rattle.std.proofs.lemmas.List.{length_push, take_all, take-take, take-append-le, take_min, take_more_set, set_past}
use Rattle.std.proofs.lemmas.Bool.{false≢true, lt-leb, cases_Bool, cases_lt, and_parts}
use Rattle.std.specs.Slice.{IsGetRangeResult}
use Rattle.script.proofs.Cuts.{init, init_is, cut_end, cut_on, ends_more, ends_some, some_more}
use Rattle.script.specs.Splits.{unended, some}
use Rattle.script.specs.Splitters.{Shows, Holds, Keeps, Fed, ends_in_cr, last_byte, last_of, is_cr}
use Rattle.script.specs.declared.split.Last.{Last}
use Rattle.script.specs.declared.split.Last.TheVariants.{RecordEnd}
use Rattle.script.specs.declared.split.Splitter.{Splitter}

-- the first 80 bytes of a text without its last byte
front : (bytes t u : List ℕ) (c n : ℕ) → u ≡ t ++ c ∷ [] → take (min 80 (min 82 (length u))) bytes ≡ take 80 u → n ≡ min 80 (length t) → take n bytes ≡ take 80 t
front bytes t u c n e same n-is =
    let long : length u ≡ length t + 1 = ap length e ∙ length_push t c in
    sym (take-take n (min 80 (min 82 (length u))) bytes (omega arith)) ∙ ap (take n) same ∙ take-take n 80 u (omega arith) ∙ ap (take n) e ∙ take-append-le n t (c ∷ []) (omega arith)
    ∙ ap (λ m. take m t) n-is ∙ take_min 80 t

-- the first 80 bytes of a text with one byte more
back : (bytes u : List ℕ) (len b n : ℕ) → length bytes ≡ 80 → len ≡ min 82 (length u) → take (min 80 len) bytes ≡ take 80 u → n ≡ min 80 (len + 1) → take n (set bytes len b) ≡ take 80 (u ++ b ∷ [])
back bytes u len b n size len_is same n-is = elim (cases_lt (length u) 80) [ inl h ↦ short h | inr h ↦ long h ]
  where
    short : length u < 80 → take n (set bytes len b) ≡ take 80 (u ++ b ∷ [])
    short h =
        ap (λ m. take m (set bytes len b)) (omega arith) ∙ take_more_set bytes len b (omega arith)
        ∙ ap (λ l. l ++ b ∷ []) (ap (λ m. take m bytes) (omega arith) ∙ same ∙ take_all 80 u (omega arith)) ∙ sym (take_all 80 (u ++ b ∷ []) (omega (arith, length_push u b)))

    long : 80 ≤ length u → take n (set bytes len b) ≡ take 80 (u ++ b ∷ [])
    long h = ap (take n) (set_past bytes len b (omega arith)) ∙ ap (λ m. take m bytes) (omega arith) ∙ same ∙ sym (take-append-le 80 u (b ∷ []) h)

is_cr_last : (t : List ℕ) → is_cr (last_of t) ≡ ends_in_cr t
is_cr_last [] = refl
is_cr_last (b ∷ t) = elim (cases_Bool (ends_in_cr (b ∷ t))) [ inl e ↦ rw e refl | inr e ↦ rw e refl ]

last_more : (t : List ℕ) (b : ℕ) → last_of (t ++ b ∷ []) ≡ last_byte b
last_more t b = rw (some_more t b, ends_more t b) refl

-- the bytes up to the length are the text, where it is short enough
pub shown : (s : Splitter) (text : List ℕ) (r : Option (Bor (List ℕ))) → length s.bytes ≡ 80 → IsGetRangeResult s.bytes 0 s.len r → Shows s text → MatchOption r (nat_le (length text) 80 ≡ false) (λ x. x.now ≡ text)
shown s text None size got shows = lt-leb (length text) 80 (omega (arith, shows.count))
shown s text (Some x) size got shows =
    let few : s.len ≤ 80 = omega (arith, got.0.1) in
    got.0.2 ∙ ap (λ n. take n s.bytes) (omega arith) ∙ shows.bytes ∙ take_all 80 text (omega (arith, shows.count))

module _ (s : Splitter) (past : List ℕ) (byte : ℕ) where
  pub end_feeds : Holds s past → (n : ℕ) → n ≡ s.len - 1 → (is_cr s.last && eqb byte 10) ≡ true → Fed past byte true (record { bytes = s.bytes; len = n; last = RecordEnd })
  end_feeds holds n n-is h =
      let u = unended past in
      let cr : (ends_in_cr u && eqb byte 10) ≡ true = ap (λ x. x && eqb byte 10) (sym (ap is_cr holds.last ∙ is_cr_last u)) ∙ h in
      let e = cut_end past byte cr in
      let last = init_is u (and_parts _ _ cr).0 in
      let keeps = holds.text (ends_some u (and_parts _ _ cr).0) in
      let long : length u ≡ length (init u) + 1 = ap length last.1 ∙ length_push (init u) last.0 in
      record {
        holds = record { last = sym (ap (λ x. last_of x.1) e); text = λ z. absurd (false≢true (sym (ap (λ x. some x.1) e) ∙ z)) };
        given = (
          init u,
          ap (λ x. x.0) e,
          record {
            count = omega (arith, keeps.count);
            bytes = front s.bytes (init u) u last.0 (min 80 n) last.1 (ap (λ m. take (min 80 m) s.bytes) (sym keeps.count) ∙ keeps.bytes) (omega (arith, keeps.count));
          },
        );
      }

  pub put_feeds : Keeps s (unended past) → s.last ≡ last_of (unended past) → (bytes : List ℕ) (n : ℕ) (last : Last) → length s.bytes ≡ 80 → bytes ≡ set s.bytes s.len byte → n ≡ min 82 (s.len + 1) → last ≡ last_byte byte
      → (is_cr s.last && eqb byte 10) ≡ false → Fed past byte false (record { bytes = bytes; len = n; last = last })
  put_feeds keeps last-is bytes n last size bytes_are n-is last-new h =
      let u = unended past in
      let e = cut_on past byte (ap (λ x. x && eqb byte 10) (sym (ap is_cr last-is ∙ is_cr_last u)) ∙ h) in
      let after : Splitter = record { bytes = bytes; len = n; last = last } in
      let more : Keeps after (u ++ byte ∷ []) = record {
        count = omega (arith, keeps.count, length_push u byte);
        bytes = ap (take (min 80 n)) bytes_are ∙ back s.bytes u s.len byte (min 80 n) size keeps.count keeps.bytes (omega arith);
      } in
      record {
        holds = record { last = last-new ∙ sym (ap (λ x. last_of x.1) e ∙ last_more u byte); text = λ _. subst (Keeps after) (sym (ap (λ x. x.1) e)) more };
        given = ap (λ x. x.0) e;
      }
