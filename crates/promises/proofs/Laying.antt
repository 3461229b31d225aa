-- A call that lays a record down, proved: a table of refusals with 20 below it. What it gives met no row and had room, so that the record stands
-- over the start of the buffer; an outcome is known by its numbers.
--     lays, keeps            an outcome and a buffer that are as asked
--     laying_given           what was given
--     leaves_laid            what is left in the buffer, by the two cases
use Rattle.std.proofs.Common.{Err, Ok, Result}
use mathlib.Core.Path.{◌≡◌, refl, sym, ap, ◌∙◌}
use mathlib.Core.Bool.{Bool, true, false, cond}
use mathlib.Core.List.{List, [], ◌∷◌, ◌++◌}
use Prim.Native.Nat.{ℕ, ◌≤◌, ◌<◌}
use lib.Dec.{ltb}
use lib.ListN.{length, drop}
use borrow.Author.Tests.{lt-ltb, le-ltb, ltb-false}
use Rattle.lists.specs.Answer.{Answer, given, refused, NoneApplies}
use Rattle.lists.specs.Test.{first_applying}
use Rattle.lists.proofs.Answer.{given_same, refused_given, first_append, refusing, first_given, none_first}
use Rattle.layout.specs.declared.Class.TheVariants.{NoRoom}
use Rattle.layout.specs.declared.Refusal.{Refusal}
use Rattle.outcomes.specs.Outcomes.{outcome_of}
use Rattle.outcomes.proofs.Outcomes.{one_outcome}
use Rattle.promises.specs.Suite.{laying, leaving}

module _ (rows : List (Bool × Answer ℕ)) (W out : List ℕ) where
  -- 20, the last row
  abbrev last : List (Bool × Answer ℕ)
  last = (ltb (length out) (length W), refused 20 (length W)) ∷ []

  -- where no row above it applies, the room decides
  room_decides : NoneApplies rows → laying rows W out ≡ cond (ltb (length out) (length W)) (refused 20 (length W)) (given (length W))
  room_decides h = first_append rows last (given (length W)) ∙ none_first rows (first_applying last (given (length W))) h

  module _ (c : Result ℕ Refusal) (buffer : List ℕ) (answers : outcome_of c ≡ laying rows W out) (leaves : buffer ≡ leaving W out (laying rows W out)) where
    answered : (d : Result ℕ Refusal) → laying rows W out ≡ outcome_of d → (c ≡ d) × (buffer ≡ leaving W out (outcome_of d))
    answered d e = (one_outcome _ c d answers (sym e), leaves ∙ ap (leaving W out) e)

    pub lays : NoneApplies rows
        → (length W ≤ length out → (c ≡ Ok (length W)) × (buffer ≡ W ++ drop (length W) out))
        × (length out < length W → (c ≡ Err (record { class = NoRoom; place = length W })) × (buffer ≡ out))
    lays h = (
      λ room. answered (Ok (length W)) (room_decides h ∙ rw (le-ltb (length out) (length W) room) refl),
      λ short. answered (Err (record { class = NoRoom; place = length W })) (room_decides h ∙ rw (lt-ltb (length out) (length W) short) refl),
    )

    pub keeps : (r : Refusal) → c ≡ Err r → buffer ≡ out
    keeps r e = leaves ∙ ap (leaving W out) (sym answers ∙ ap outcome_of e)

  laying_given : refusing rows ≡ true → (n : ℕ) → laying rows W out ≡ given n → NoneApplies rows × (length W ≤ length out) × (length W ≡ n)
  laying_given all_refuse n e =
      let g = first_given rows (first_applying last (given (length W))) n all_refuse (sym (first_append rows last (given (length W))) ∙ e) in
      let r = room (ltb (length out) (length W)) refl g.1 in
      (g.0, r.0, r.1)
    where
      room : (t : Bool) → ltb (length out) (length W) ≡ t → cond t (refused 20 (length W)) (given (length W)) ≡ given n
          → (length W ≤ length out) × (length W ≡ n)
      room true q z = absurd (refused_given z)
      room false q z = (ltb-false (length out) (length W) q, given_same z)

  -- a buffer that is as it was on a refusal, and has the record over its start where that fits
  pub leaves_laid : (buffer : List ℕ) → refusing rows ≡ true
      → ((number place : ℕ) → laying rows W out ≡ refused number place → buffer ≡ out)
      → (NoneApplies rows → length W ≤ length out → buffer ≡ W ++ drop (length W) out)
      → leaving W out (laying rows W out) ≡ buffer
  leaves_laid buffer all_refuse kept laid = go (laying rows W out) refl
    where
      go : (a : Answer ℕ) → laying rows W out ≡ a → leaving W out a ≡ buffer
      go (refused number place) q = sym (kept number place q)
      go (given n) q =
          let g = laying_given all_refuse n q in
          ap (λ (m : ℕ). W ++ drop m out) (sym g.2) ∙ sym (laid g.0 g.1)
