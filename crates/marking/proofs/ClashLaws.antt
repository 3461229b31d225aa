-- The rows that 19 looks for: own nodes that a cut wire leaves and whose promise is not their note.
--     mark_zero, mark_one     a mark by its test
--     clashing                whether a row is such a one
use Prim.Native.Nat.{ℕ, ◌+◌, ◌<◌}
use native.Mathlib.Omega.{arith}
use mathlib.Core.Bool.{Bool, true, false, cond, not, ◌&&◌}
use mathlib.Core.List.{List}
use mathlib.Core.Path.{◌≡◌, refl, sym, ap, ◌∙◌}
use lib.ListN.{get_or}
use borrow.Author.Tests.{not-true, not-false}
use Rattle.routes.specs.Form.{route_at}
use Rattle.routes.specs.Order.{same}
use Rattle.routes.specs.declared.Route.{Route}
use Rattle.networks.specs.Cut.{leaves, off_note, clashes}
use Rattle.reading.specs.House.{house}
use Rattle.networks.specs.Sheets.{note}
use Rattle.layout.specs.Layout.{node_count, node_offset}
use Rattle.nodes.specs.Node.{node_id, is_own, promising}
use Rattle.layout.specs.declared.Form.{Form}
use Rattle.reading.specs.Whole.{read_network, read_sheet}
use Rattle.marking.specs.Marks.{Leaving}
use Rattle.marking.specs.Pieces.{note_offset, note_in}
use Rattle.records.specs.Entered.{EntryRows}
use Rattle.marking.specs.Tables.{unclashed}
use Rattle.reading.proofs.Said.{promise_none, promise_some}
use Rattle.reading.specs.Rows.{own_in}
use Rattle.marking.proofs.Said.{meets_own, meets_input}
use Rattle.routes.specs.Carry.{highest}
use Rattle.marking.proofs.RowLaws.{index_small, node_there, promise_there, noted}
use Rattle.layout.specs.Form.{sheet_lead}

-- a mark by its test, and back
pub mark_zero : (v : ℕ) (t : Bool) → v ≡ cond t 1 0 → v ≡ 0 → t ≡ false
mark_zero v true e z = absurd (omega arith)
mark_zero v false e z = refl

pub mark_one : (v : ℕ) (t : Bool) → v ≡ cond t 1 0 → (v ≡ 0 → ⊥) → t ≡ true
mark_one v true e z = refl
mark_one v false e z = absurd (z e)

module _ (f : Form) (network sheet : List ℕ) (i : ℕ) (l : i < node_count network) where
  -- an input
  module _ (own? : Bool) (e : own? ≡ is_own f network i) (y : not own? ≡ true) where
    foreign : is_own f network i ≡ false
    foreign = sym e ∙ not-true own? y

    pub input_unclashed : true ≡ unclashed f network sheet i
    unfolding unclashed
    input_unclashed = rw (meets_input f network i foreign (clashes (house highest) (read_network f network) (read_sheet f sheet)))

  -- an own node
  module _ (own? : Bool) (e : own? ≡ is_own f network i) (y : not own? ≡ false) where
    pub ours : is_own f network i ≡ true
    ours = sym e ∙ not-false own? y

    clash_own : unclashed f network sheet i ≡ not (leaves (read_network f network) (read_sheet f sheet) (node_id f network i) && off_note (house highest) (own_in f network i).promise (note (read_sheet f sheet) (node_id f network i)))
    unfolding unclashed
    clash_own = ap not (meets_own f network i ours (clashes (house highest) (read_network f network) (read_sheet f sheet)))

    module _ (marks : List ℕ) (m : Leaving f network sheet marks) where
      left? : get_or marks i 0 ≡ cond (leaves (read_network f network) (read_sheet f sheet) (node_id f network i)) 1 0
      unfolding Leaving
      left? = m i l ours

      stays : get_or marks i 0 ≡ 0 → leaves (read_network f network) (read_sheet f sheet) (node_id f network i) ≡ false
      stays z = mark_zero _ _ left? z

      goes : (get_or marks i 0 ≡ 0 → ⊥) → leaves (read_network f network) (read_sheet f sheet) (node_id f network i) ≡ true
      goes d = mark_one _ _ left? d

      pub stay_unclashed : get_or marks i 0 ≡ 0 → true ≡ unclashed f network sheet i
      stay_unclashed z = sym (clash_own ∙ rw (stays z))

      module _ (d : get_or marks i 0 ≡ 0 → ⊥) (p : Bool) (at : ℕ) (q : at ≡ node_offset f network i) (r : p ≡ promising f.route network at) where
        pub silent_unclashed : not p ≡ true → true ≡ unclashed f network sheet i
        silent_unclashed s =
            sym (clash_own ∙ rw (goes d, promise_none f.route network (node_offset f network i) p (r ∙ ap (promising f.route network) q) (not-true p s)))

        pub same_unclashed : (found : List ℕ) (x n : Route) (t : Bool) (o : ℕ) → EntryRows f sheet_lead network sheet found → not p ≡ false
            → o ≡ note_offset f found i → x ≡ route_at f.route network (at + 4 + f.route) → n ≡ route_at f.route sheet o → t ≡ same x n → t ≡ unclashed f network sheet i
        unfolding note_in
        same_unclashed found x n t o g s h a b z =
            sym (clash_own ∙ rw (
              goes d,
              promise_some f.route network (node_offset f network i) p (r ∙ ap (promising f.route network) q) (not-false p s),
              noted f network sheet found i l ours g,
              ← q,
              ← a,
              ← h,
              ← b,
              ← z,
            ) (twice t))
          where
            twice : (t : Bool) → not (not t) ≡ t
            twice true = refl
            twice false = refl

pub ruleset clashing = (index_small, node_there, promise_there, ours, input_unclashed, stay_unclashed, silent_unclashed, same_unclashed)
