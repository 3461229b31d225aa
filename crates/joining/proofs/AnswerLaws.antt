-- The joiner's answers, refusal by refusal.
--     joining_21, joining_22, joining_23, joining_24     each number, with its place and the buffer, and what is left where it does not apply
use Rattle.std.proofs.Common.{Option}
use Rattle.std.specs.Bool.{then_some}
use Rattle.std.specs.Option.{MatchOption}
use Prim.Native.Nat.{ℕ, ◌≤◌, ◌<◌, min}
use native.Mathlib.Omega.{arith}
use mathlib.Core.Bool.{Bool, true, false, cond, not}
use mathlib.Core.List.{List}
use mathlib.Core.Option.{none, some}
use mathlib.Core.Path.{◌≡◌, refl, sym, ap₂, ◌∙◌}
use lib.Dec.{leb, ltb}
use lib.ListN.{length}
use borrow.Author.Tests.{lt-ltb, le-ltb, ltb-true, ltb-false, leb-true, leb-false, not-true, not-false}
use Rattle.lists.specs.All.{all_alike}
use Rattle.lists.specs.Answer.{Answer, given, refused}
use Rattle.lists.specs.First.{first_bad}
use Rattle.lists.specs.Laid.{placed}
use Rattle.numbers.proofs.Codecs.{u16_below}
use Rattle.routes.specs.Alike.{same_policy}
use Rattle.routes.specs.Carry.{highest}
use Rattle.networks.specs.Join.{lower_of, unmatched, join}
use Rattle.layout.specs.Layout.{node_count, node_offset}
use Rattle.layout.specs.Refusals.{refusing}
use Rattle.layout.specs.declared.Class.TheVariants.{OwnedByBoth}
use Rattle.layout.specs.declared.Form.{Form}
use Rattle.layout.specs.declared.Refusal.{Refusal}
use Rattle.nodes.specs.Node.{node_id}
use Rattle.records.specs.Checked.{CheckedNetwork}
use Rattle.matching.specs.Rows.{owned_once, row_matched}
use Rattle.matching.proofs.Said.{twice_said, unmatched_said}
use Rattle.merging.specs.Front.{front_id}
use Rattle.merging.specs.Merged.{joined_in}
use Rattle.outcomes.specs.Room.{in_room, record_answer, laid_answer}
use Rattle.reading.specs.House.{house}
use Rattle.reading.specs.Whole.{HouseNetwork, read_network, write_network}
use Rattle.joining.specs.Joining.{join_said}
use Rattle.joining.specs.Stages.{Apart, Matched, OneTable, lowest_unmatched}

module _ (f : Form) (first second : List ℕ) where
  abbrev said : Answer HouseNetwork
  said = join_said f first second

  -- 21
  module _ (n twice : ℕ) (e : n ≡ node_count first) (m : twice ≡ first_bad (owned_once f first second) (node_count first)) where
    module _ (l : twice < n) (r : Refusal) (d : r ≡ record { class = OwnedByBoth; place = node_id f first twice }) where
      said_21 : said ≡ refusing r
      unfolding join_said join
      said_21 = rw (twice_said f first second, ← m, lt-ltb twice (node_count first) (omega arith), d) refl

      pub answer_21 : (room : ℕ) → refusing r ≡ record_answer f room said
      answer_21 room = rw said_21 refl

      pub buffer_21 : (out : List ℕ) → out ≡ laid_answer f said out
      buffer_21 out = rw said_21 refl

    pub twice_row : twice < n → twice < node_count first
    twice_row l = omega arith

    pub none_twice : n ≤ twice → Apart f first second
    unfolding Apart
    none_twice l = twice_said f first second ∙ rw (← m, le-ltb twice (node_count first) (omega arith)) refl

pub ruleset joining_21 = (answer_21, buffer_21, twice_row, none_twice)

-- 22: the lowest unmatched id of either network
module _ (f : Form) (first second : List ℕ) where
  -- the lower of two places, where 65536 stands for none
  lower_place : (s t : Bool) (x y : ℕ) → x < 65536 → y < 65536
      → lower_of (cond s (some x) none) (cond t (some y) none)
      ≡ cond (ltb (cond (ltb (cond t y 65536) (cond s x 65536)) (cond t y 65536) (cond s x 65536)) 65536) (some (cond (ltb (cond t y 65536) (cond s x 65536)) (cond t y 65536) (cond s x 65536))) none
  lower_place false false x y a b = refl
  lower_place true false x y a b = rw (le-ltb 65536 x (omega arith), lt-ltb x 65536 a) refl
  lower_place false true x y a b = rw (lt-ltb y 65536 b, lt-ltb y 65536 b) refl
  lower_place true true x y a b = go (leb x y) refl
    where
      go : (u : Bool) → leb x y ≡ u → some (cond u x y) ≡ cond (ltb (cond (ltb y x) y x) 65536) (some (cond (ltb y x) y x)) none
      go true q = let l = leb-true x y q in rw (le-ltb y x l, lt-ltb x 65536 a) refl
      go false q = let l = leb-false x y q in rw (lt-ltb y x l, lt-ltb y 65536 b) refl

  module _ (c : CheckedNetwork f first) (d : CheckedNetwork f second) where
    id_low : (b : List ℕ) → CheckedNetwork f b → (i : ℕ) → node_id f b i < 65536
    unfolding node_id
    id_low b k i = u16_below b (node_offset f b i) (k.bytes _, k.bytes _)

    lowest_said : lower_of (unmatched (house highest) (read_network f first) (read_network f second)) (unmatched (house highest) (read_network f second) (read_network f first))
        ≡ cond (ltb (lowest_unmatched f first second) 65536) (some (lowest_unmatched f first second)) none
    unfolding lowest_unmatched front_id
    lowest_said =
        ap₂ lower_of (unmatched_said f first second) (unmatched_said f second first)
        ∙ lower_place (ltb (first_bad (row_matched f first second) (node_count first)) (node_count first)) (ltb (first_bad (row_matched f second first) (node_count second)) (node_count second))
        (node_id f first (first_bad (row_matched f first second) (node_count first))) (node_id f second (first_bad (row_matched f second first) (node_count second)))
        (id_low first c _) (id_low second d _)

    module _ (apart : Apart f first second) (place : ℕ) (e : place ≡ lowest_unmatched f first second) where
      module _ (l : place < 65536) where
        said_22 : join_said f first second ≡ refused 22 place
        unfolding join_said join Apart
        said_22 = rw (apart, lowest_said, ← e, lt-ltb place 65536 l) refl

        pub answer_22 : (room : ℕ) → refused 22 place ≡ record_answer f room (join_said f first second)
        answer_22 room = rw said_22 refl

        pub buffer_22 : (out : List ℕ) → out ≡ laid_answer f (join_said f first second) out
        buffer_22 out = rw said_22 refl

    pub none_unmatched : 65536 ≤ lowest_unmatched f first second → Matched f first second
    unfolding Matched
    none_unmatched l = lowest_said ∙ rw (le-ltb (lowest_unmatched f first second) 65536 l) refl

-- the lower of the two, as the code takes it, which reads the second network by its own form
module _ (f g : Form) (same : g ≡ f) (first second : List ℕ) (a b i j : ℕ) (p : a ≡ first_bad (row_matched f first second) (node_count first))
    (q : b ≡ first_bad (row_matched g second first) (node_count second)) (e : i ≡ front_id f first a) (d : j ≡ front_id g second b) where
  lowest_is : min i j ≡ lowest_unmatched f first second
  unfolding lowest_unmatched
  lowest_is = rw (← p, ← same, ← q, ← d, same, ← e) (go (ltb j i) refl)
    where
      go : (t : Bool) → ltb j i ≡ t → min i j ≡ cond (ltb j i) j i
      go true h = let l = ltb-true j i h in rw h (omega arith)
      go false h = let l = ltb-false j i h in rw h (omega arith)

  -- it is an id, or no row is unmatched
  pub lowest_found : (low : ℕ) → low ≡ min i j → (r : Option ℕ) → r ≡ then_some (ltb low 65536) low
      → MatchOption r (65536 ≤ lowest_unmatched f first second) (λ place. (place ≡ lowest_unmatched f first second) × (place < 65536))
  lowest_found low h r g = rw g (go (ltb low 65536) refl)
    where
      go : (t : Bool) → ltb low 65536 ≡ t
          → MatchOption (then_some t low) (65536 ≤ lowest_unmatched f first second) (λ place. (place ≡ lowest_unmatched f first second) × (place < 65536))
      go true y = (h ∙ lowest_is, ltb-true low 65536 y)
      go false y = let l = ltb-false low 65536 y in let n = h ∙ lowest_is in omega arith

pub ruleset joining_22 = (answer_22, buffer_22, none_unmatched)

-- 23
module _ (f : Form) (first second : List ℕ) (apart : Apart f first second) (matched : Matched f first second) (t : Bool)
    (e : t ≡ all_alike same_policy (read_network f first).policies (read_network f second).policies) where
  module _ (y : not t ≡ true) where
    said_23 : join_said f first second ≡ refused 23 0
    unfolding join_said join Apart Matched
    said_23 = rw (apart, matched, ← e, not-true t y) refl

    pub answer_23 : (room : ℕ) → refused 23 0 ≡ record_answer f room (join_said f first second)
    answer_23 room = rw said_23 refl

    pub buffer_23 : (out : List ℕ) → out ≡ laid_answer f (join_said f first second) out
    buffer_23 out = rw said_23 refl

  pub one_table : not t ≡ false → OneTable f first second
  unfolding OneTable
  one_table y = sym e ∙ not-false t y

pub ruleset joining_23 = (answer_23, buffer_23, one_table)

-- 24, and what is given
module _ (f : Form) (first second : List ℕ) (apart : Apart f first second) (matched : Matched f first second) (one : OneTable f first second)
    (nodes : ℕ) (p : nodes ≡ length (joined_in f first second).boxes) where
  module _ (l : f.most < nodes) where
    said_nodes : join_said f first second ≡ refused 24 nodes
    unfolding join_said join Apart Matched OneTable joined_in
    said_nodes = rw (apart, matched, one, ← p, lt-ltb f.most nodes l) refl

    pub answer_nodes : (room : ℕ) → refused 24 nodes ≡ record_answer f room (join_said f first second)
    answer_nodes room = rw said_nodes refl

    pub buffer_nodes : (out : List ℕ) → out ≡ laid_answer f (join_said f first second) out
    buffer_nodes out = rw said_nodes refl

  module _ (few : nodes ≤ f.most) (edges : ℕ) (q : edges ≡ length (joined_in f first second).wires) where
    module _ (l : 4096 < edges) where
      said_edges : join_said f first second ≡ refused 24 edges
      unfolding join_said join Apart Matched OneTable joined_in
      said_edges = rw (apart, matched, one, ← p, le-ltb f.most nodes few, ← q, lt-ltb 4096 edges l) refl

      pub answer_edges : (room : ℕ) → refused 24 edges ≡ record_answer f room (join_said f first second)
      answer_edges room = rw said_edges refl

      pub buffer_edges : (out : List ℕ) → out ≡ laid_answer f (join_said f first second) out
      buffer_edges out = rw said_edges refl

    module _ (l : edges ≤ 4096) where
      said_joint : join_said f first second ≡ given (joined_in f first second)
      unfolding join_said join Apart Matched OneTable joined_in
      said_joint = rw (apart, matched, one, ← p, le-ltb f.most nodes few, ← q, le-ltb 4096 edges l) refl

      pub answer_joint : (room size : ℕ) (a : Answer ℕ) → size ≡ length (write_network f (joined_in f first second)) → a ≡ in_room room size → a ≡ record_answer f room (join_said f first second)
      answer_joint room size a s h = rw (said_joint, ← s) h

      pub buffer_joint : (out out' : List ℕ) → out' ≡ placed (write_network f (joined_in f first second)) out → out' ≡ laid_answer f (join_said f first second) out
      buffer_joint out out' h = rw said_joint h

pub ruleset joining_24 = (answer_nodes, buffer_nodes, answer_edges, buffer_edges, answer_joint, buffer_joint)
