-- 21 and 22 by rows: the lowest id that the networks name is the id of the first row that the code finds.
--     twice_said, unmatched_said     the lowest box owned by both; the lowest assumption that the other network does not match
--     shared_said                    how many boxes of the one have an id of the other's
use mathlib.Core.Path.{◌≡◌, refl, sym, ap, ◌∙◌}
use mathlib.Core.Bool.{Bool, true, false, cond, not, ◌&&◌, ◌||◌, false≢true}
use mathlib.Core.List.{List, ◌∷◌, filter_map}
use mathlib.Core.Option.{Option, none, some, map}
use Prim.Native.Nat.{ℕ, zero, suc, ◌+◌, ◌<◌}
use native.Mathlib.Omega.{arith}
use lib.Dec.{ltb}
use lib.ListN.{length}
use borrow.Author.Tests.{lt-ltb, not-true, not-false}
use Rattle.lists.specs.Answer.{is_some}
use Rattle.lists.specs.Filter.{filter, first_that}
use Rattle.lists.specs.First.{first_bad}
use Rattle.lists.specs.Gather.{count}
use Rattle.lists.specs.Rows.{rows}
use Rattle.lists.specs.Sorted.{find}
use Rattle.lists.specs.Stride.{at}
use Rattle.lists.proofs.Gather.{count_front, count_ext}
use Rattle.lists.proofs.Stride.{at_zero, at_shift}
use Rattle.lists.proofs.Table.{ltb_suc}
use Rattle.lists.proofs.Union.{shared}
use Rattle.routes.specs.Carry.{highest}
use Rattle.routes.specs.Form.{route_at}
use Rattle.routes.specs.declared.Demand.{Demand}
use Rattle.routes.specs.declared.Route.{Route}
use Rattle.networks.specs.Join.{meeting, matched, unmatched}
use Rattle.networks.specs.Lowest.{lowest}
use Rattle.networks.specs.Network.{Own, Input, Box, own, input, as_input, box_id, is_box, own_boxes, box, owns}
use Rattle.layout.specs.Form.{node_width}
use Rattle.layout.specs.Layout.{node_count, node_part, node_offset}
use Rattle.layout.specs.declared.Form.{Form}
use Rattle.nodes.specs.Node.{node_id, is_own}
use Rattle.records.specs.Edge.{boxed, owned}
use Rattle.reading.specs.House.{house}
use Rattle.reading.specs.Parts.{box_at}
use Rattle.reading.specs.Whole.{HouseNetwork, read_network}
use Rattle.reading.proofs.Lowest.{passed, lowest_rows}
use Rattle.reading.proofs.Said.{box_id_at, own_row, input_row, read_ids, owns_read, has_box_read}
use Rattle.matching.specs.Rows.{owned_once, row_matched, in_other}

-- the first input that meets a test, by its row
module _ {R D : Type 0} (test : Input R → Bool) where
  -- a box that is no input, or does not meet the test
  abbrev cleared : Box R D → Bool
  cleared (own b) = true
  cleared (input a) = not (test a)

  module _ (value : ℕ → Box R D) (width : ℕ) where
    abbrev id_at : ℕ → ℕ → ℕ
    id_at offset i = box_id (value (at offset width i))

    abbrev found : List (Box R D) → Option ℕ
    found vs = map (λ (a : Input R). a.id) (first_that test (filter_map as_input vs))

    first_rows : (ok : ℕ → Bool) (offset n : ℕ) → ((i : ℕ) → i < n → ok i ≡ cleared (value (at offset width i)))
        → found (rows value width offset n) ≡ cond (ltb (first_bad ok n) n) (some (id_at offset (first_bad ok n))) none
    unfolding first_bad filter_map
    first_rows ok offset zero h = refl
    first_rows ok offset (suc n) h =
        go (value offset) (ok 0) (h 0 (omega arith) ∙ ap (λ (o : ℕ). cleared (value o)) (at_zero offset width)) (ap value (at_zero offset width))
        (first_rows (λ k. ok (suc k)) (offset + width) n (λ i l. h (suc i) (omega arith) ∙ ap (λ (o : ℕ). cleared (value o)) (at_shift offset width i)))
      where
        there : ℕ
        there = first_bad (λ k. ok (suc k)) n

        go : (v : Box R D) (t : Bool) → t ≡ cleared v → value (at offset width 0) ≡ v
            → found (rows value width (offset + width) n) ≡ cond (ltb there n) (some (id_at (offset + width) there)) none
            → found (v ∷ rows value width (offset + width) n) ≡ cond (ltb (cond t (suc there) 0) (suc n)) (some (id_at offset (cond t (suc there) 0))) none
        go (own b) false e q r = absurd (false≢true e)
        go (own b) true e q r = r ∙ rw (ltb_suc there n, at_shift offset width there)
        go (input a) true e q r = rw (not-true (test a) (sym e)) (r ∙ rw (ltb_suc there n, at_shift offset width there))
        go (input a) false e q r = rw (not-false (test a) (sym e), lt-ltb 0 (suc n) (omega arith), q)

module _ (f : Form) (a b : List ℕ) where
  abbrev N : HouseNetwork
  N = read_network f a

  abbrev M : HouseNetwork
  M = read_network f b

  -- the id of the first row that fails a test, if one does
  abbrev pub first_id : (ℕ → Bool) → Option ℕ
  first_id ok = cond (ltb (first_bad ok (node_count a)) (node_count a)) (some (node_id f a (first_bad ok (node_count a)))) none

  id_there : (ok : ℕ → Bool) → cond (ltb (first_bad ok (node_count a)) (node_count a)) (some (box_id (box_at f.route a (at (node_part a) (node_width f) (first_bad ok (node_count a)))))) none ≡ first_id ok
  unfolding node_id node_offset
  id_there ok = ap (λ (x : ℕ). cond (ltb (first_bad ok (node_count a)) (node_count a)) (some x) none) (box_id_at f.route a _)

  once_row : (i : ℕ) → owned_once f a b i ≡ passed (λ (v : Own Route Demand). owns M v.id) (box_at f.route a (node_offset f a i))
  unfolding owned_once
  once_row i = go (is_own f a i) refl
    where
      go : (t : Bool) → is_own f a i ≡ t → not (t && owned f b (node_id f a i)) ≡ passed (λ (v : Own Route Demand). owns M v.id) (box_at f.route a (node_offset f a i))
      go true e = rw (own_row f a i e, owns_read f b (node_id f a i)) refl
      go false e = rw (input_row f a i e) refl

  pub twice_said : lowest (λ (v : Own Route Demand). owns M v.id) (own_boxes N) ≡ first_id (owned_once f a b)
  unfolding read_network node_offset
  twice_said =
      lowest_rows (λ (v : Own Route Demand). owns M v.id) (box_at f.route a) (node_width f) (owned_once f a b) (node_part a) (node_count a) (λ i l. once_row i)
      ∙ id_there (owned_once f a b)

  abbrev off : Input Route → Bool
  off v = not (matched (house highest) v.assumed (box M v.id))

  matched_row : (i : ℕ) → row_matched f a b i ≡ cleared {D = Demand} off (box_at f.route a (node_offset f a i))
  unfolding row_matched
  matched_row i = go (is_own f a i) refl
    where
      twice_not : (t : Bool) → t ≡ not (not t)
      twice_not true = refl
      twice_not false = refl

      go : (t : Bool) → is_own f a i ≡ t
          → t || matched (house highest) (route_at f.route a (node_offset f a i + 3)) (box M (node_id f a i)) ≡ cleared {D = Demand} off (box_at f.route a (node_offset f a i))
      go true e = rw (own_row f a i e) refl
      go false e = rw (input_row f a i e) (twice_not _)

  pub unmatched_said : unmatched (house highest) N M ≡ first_id (row_matched f a b)
  unfolding read_network node_offset
  unmatched_said =
      first_rows off (box_at f.route a) (node_width f) (row_matched f a b) (node_part a) (node_count a) (λ i l. matched_row i)
      ∙ id_there (row_matched f a b)

  -- how many rows meet a test
  rows_count : {A : Type 0} (p : A → Bool) (value : ℕ → A) (width o n : ℕ) → length (filter p (rows value width o n)) ≡ count (λ i. p (value (at o width i))) n
  unfolding count
  rows_count p value width o zero = refl
  rows_count {A} p value width o (suc n) =
      go (p (value o)) (rows_count p value width (o + width) n)
      ∙ sym (count_front (λ i. p (value (at o width i))) n ∙ rw (at_zero o width, count_ext (λ i. p (value (at o width (suc i)))) (λ i. p (value (at (o + width) width i))) n (λ k l. rw (at_shift o width k) refl)) refl)
    where
      go : (t : Bool) → length (filter p (rows value width (o + width) n)) ≡ count (λ i. p (value (at (o + width) width i))) n
          → length (cond t (value o ∷ filter p (rows value width (o + width) n)) (filter p (rows value width (o + width) n))) ≡ cond t 1 0 + count (λ i. p (value (at (o + width) width i))) n
      go true e = omega (arith, e)
      go false e = omega (arith, e)

  some_box : (o : Option (Box Route Demand)) → is_some o ≡ is_box o
  some_box none = refl
  some_box (some v) = refl

  pub shared_said : shared box_id meeting N.boxes M.boxes ≡ count (in_other f a b) (node_count a)
  unfolding read_network in_other
  shared_said =
      rows_count (λ (v : Box Route Demand). is_some (find box_id (box_id v) (read_network f b).boxes)) (box_at f.route a) (node_width f) (node_part a) (node_count a)
      ∙ count_ext (λ i. is_some (find box_id (box_id (box_at f.route a (at (node_part a) (node_width f) i))) (read_network f b).boxes)) (λ i. boxed f b (node_id f a i)) (node_count a)
      (λ i l. some_box (find box_id (box_id (box_at f.route a (at (node_part a) (node_width f) i))) (read_network f b).boxes) ∙ rw (read_ids f a i) (has_box_read f b (node_id f a i)))
