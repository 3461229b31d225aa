-- The lowest own box that meets a test, by its row: the first row that is an own box's and meets it.
use mathlib.Core.Path.{◌≡◌, refl, sym, ap, ◌∙◌}
use mathlib.Core.Bool.{Bool, true, false, cond, not, false≢true}
use mathlib.Core.List.{◌∷◌, filter_map}
use mathlib.Core.Option.{none, some}
use Prim.Native.Nat.{ℕ, zero, suc, ◌+◌, ◌<◌}
use native.Mathlib.Omega.{arith}
use lib.Dec.{ltb}
use borrow.Author.Tests.{lt-ltb, not-true, not-false}
use Rattle.lists.specs.First.{first_bad}
use Rattle.lists.specs.Rows.{rows}
use Rattle.lists.specs.Stride.{at}
use Rattle.lists.proofs.Stride.{at_zero, at_shift}
use Rattle.lists.proofs.Table.{ltb_suc}
use Rattle.networks.specs.Lowest.{lowest}
use Rattle.networks.specs.Network.{Own, Box, own, input, as_own, box_id}

module _ {R D : Type 0} (test : Own R D → Bool) where
  -- a box that is no own one, or does not meet the test
  abbrev pub passed : Box R D → Bool
  passed (own b) = not (test b)
  passed (input a) = true

  module _ (value : ℕ → Box R D) (width : ℕ) where
    abbrev pub id_at : ℕ → ℕ → ℕ
    id_at offset i = box_id (value (at offset width i))

    pub lowest_rows : (ok : ℕ → Bool) (offset n : ℕ) → ((i : ℕ) → i < n → ok i ≡ passed (value (at offset width i)))
        → lowest test (filter_map as_own (rows value width offset n)) ≡ cond (ltb (first_bad ok n) n) (some (id_at offset (first_bad ok n))) none
    unfolding first_bad filter_map
    lowest_rows ok offset zero h = refl
    lowest_rows ok offset (suc n) h =
        go (value offset) (ok 0) (h 0 (omega arith) ∙ ap (λ (o : ℕ). passed (value o)) (at_zero offset width)) (ap value (at_zero offset width))
        (lowest_rows (λ k. ok (suc k)) (offset + width) n (λ i l. h (suc i) (omega arith) ∙ ap (λ (o : ℕ). passed (value o)) (at_shift offset width i)))
      where
        there : ℕ
        there = first_bad (λ k. ok (suc k)) n

        go : (v : Box R D) (t : Bool) → t ≡ passed v → value (at offset width 0) ≡ v
            → lowest test (filter_map as_own (rows value width (offset + width) n)) ≡ cond (ltb there n) (some (id_at (offset + width) there)) none
            → lowest test (filter_map as_own (v ∷ rows value width (offset + width) n)) ≡ cond (ltb (cond t (suc there) 0) (suc n)) (some (id_at offset (cond t (suc there) 0))) none
        go (input a) false e q r = absurd (false≢true e)
        go (input a) true e q r = r ∙ rw (ltb_suc there n, at_shift offset width there)
        go (own b) true e q r = rw (not-true (test b) (sym e)) (r ∙ rw (ltb_suc there n, at_shift offset width there))
        go (own b) false e q r = rw (not-false (test b) (sym e), lt-ltb 0 (suc n) (omega arith), q)
