-- The cutter's answers, refusal by refusal.
--     record_roomed                          20, or the length
--     cutting_17, cutting_18, cutting_19     the others
use Prim.Native.Nat.{ℕ, ◌≤◌, ◌<◌}
use native.Mathlib.Omega.{arith}
use mathlib.Core.Bool.{Bool, cond, not}
use mathlib.Core.List.{List}
use mathlib.Core.Option.{none, some}
use mathlib.Core.Path.{◌≡◌, refl, sym, ap, ◌∙◌}
use lib.Dec.{eqb, ltb}
use lib.ListN.{length, replicate}
use Rattle.lists.specs.Gather.{table_after}
use Rattle.records.specs.Entered.{entered, with_entry, EntryRows}
use Rattle.layout.specs.Form.{sheet_lead, node_width}
use Rattle.layout.specs.Layout.{Room, node_count, node_part, node_offset}
use Rattle.records.proofs.EnteredLaws.{entry_rows_lem}
use Rattle.marking.specs.Tables.{box_in, own_meets, unclashed, Numbered, outside}
use borrow.Author.Tests.{eq-eqb, ne_eqb, lt-ltb, le-ltb}
use Rattle.lists.specs.All.{any}
use Rattle.lists.specs.Filter.{holds}
use Rattle.lists.proofs.Filter.{any_filter_map}
use Rattle.lists.specs.First.{first_bad, every}
use Rattle.lists.proofs.First.{every_ext}
use Rattle.lists.specs.Laid.{placed}
use Rattle.lists.specs.Stride.{at}
use Rattle.lists.proofs.Table.{any_rows}
use Rattle.routes.specs.declared.Demand.{Demand}
use Rattle.routes.specs.declared.Route.{Route}
use Rattle.lists.specs.Answer.{Answer, given, refused, is_some}
use Rattle.networks.specs.Lowest.{lowest, unentered}
use Rattle.networks.specs.Cut.{numbered, clashes, cut}
use Rattle.reading.specs.House.{house}
use Rattle.networks.specs.Network.{Own, Box, own, input, as_own, own_boxes}
use Rattle.networks.specs.Sheets.{note}
use Rattle.nodes.specs.Node.{node_id}
use Rattle.layout.specs.Refusals.{refusing}
use Rattle.layout.specs.declared.Class.TheVariants.{NoEntry, NoteDiffers}
use Rattle.layout.specs.declared.Form.{Form}
use Rattle.layout.specs.declared.Refusal.{Refusal}
use Rattle.reading.specs.Parts.{box_at}
use Rattle.reading.specs.Whole.{HouseNetwork, HouseSheet, read_network, read_sheet, write_network}
use Rattle.reading.proofs.Lowest.{passed, lowest_rows}
use Rattle.reading.proofs.Said.{box_id_at}
use Rattle.outcomes.specs.Room.{in_room, record_answer, laid_answer}
use Rattle.cutting.specs.Cutting.{cut_said}
use Rattle.laying.specs.Pieces.{fragment_in}
use Rattle.cutting.specs.Stages.{AllEntered, Asked}
use Rattle.routes.specs.Carry.{highest}
use Rattle.marking.proofs.FragmentLaws.{outside_is, entered_is}

-- the record's length, with what the room for it answers
pub record_roomed : (room size : ℕ) (w : List ℕ) (a : Answer ℕ) → size ≡ length w → a ≡ in_room room size → a ≡ in_room room (length w)
record_roomed room size w a e h = rw (← e) h

-- the lowest own box that meets a test, by its row
module _ (f : Form) (network : List ℕ) (test : Own Route Demand → Bool) where
  passes : (v : Box Route Demand) → not (holds test (as_own v)) ≡ passed test v
  passes (own b) = refl
  passes (input a) = refl

  row_passes : (i : ℕ) → not (own_meets f network test i) ≡ passed test (box_at f.route network (at (node_part network) (node_width f) i))
  unfolding own_meets box_in node_offset
  row_passes i = passes (box_at f.route network (at (node_part network) (node_width f) i))

  module _ (ok : ℕ → Bool) (same : (i : ℕ) → i < node_count network → ok i ≡ not (own_meets f network test i)) where
    lowest_own : lowest test (own_boxes (read_network f network))
        ≡ cond (ltb (first_bad ok (node_count network)) (node_count network)) (some (node_id f network (first_bad ok (node_count network)))) none
    unfolding read_network node_id node_offset
    lowest_own =
        lowest_rows test (box_at f.route network) (node_width f) ok (node_part network) (node_count network) (λ i l. same i l ∙ row_passes i)
        ∙ ap (λ (x : ℕ). cond (ltb (first_bad ok (node_count network)) (node_count network)) (some x) none) (box_id_at f.route network _)

    any_own : any test (own_boxes (read_network f network)) ≡ not (eqb (first_bad ok (node_count network)) (node_count network))
    unfolding read_network every own_meets box_in node_offset
    any_own =
        any_filter_map test as_own (read_network f network).boxes
        ∙ any_rows (λ (v : Box Route Demand). holds test (as_own v)) (box_at f.route network) (node_width f) (node_part network) (node_count network)
        ∙ ap not (every_ext _ _ (node_count network) (λ i l. sym (same i l)))

module _ (f : Form) (network sheet : List ℕ) (k : ℕ) where
  abbrev N : HouseNetwork
  N = read_network f network

  abbrev S : HouseSheet
  S = read_sheet f sheet

  -- 17, 18 and 19 by the rows that they name
  unentered_is : unentered N (note S)
      ≡ cond (ltb (first_bad (entered f sheet_lead network sheet) (node_count network)) (node_count network)) (some (node_id f network (first_bad (entered f sheet_lead network sheet) (node_count network)))) none
  unentered_is = lowest_own f network (λ (b : Own Route Demand). not (is_some (note S b.id))) (entered f sheet_lead network sheet) (λ i l. entered_is f network sheet i)

  asked_is : (fragments : List ℕ) → Numbered f network sheet fragments
      → any (numbered N S k) (own_boxes N) ≡ not (eqb (first_bad (outside f network fragments k) (node_count network)) (node_count network))
  asked_is fragments m = any_own f network (numbered N S k) (outside f network fragments k) (λ i l. outside_is f network fragments k i sheet m l)

  clash_is : lowest (clashes (house highest) N S) (own_boxes N)
      ≡ cond (ltb (first_bad (unclashed f network sheet) (node_count network)) (node_count network)) (some (node_id f network (first_bad (unclashed f network sheet) (node_count network)))) none
  unfolding unclashed
  clash_is = lowest_own f network (clashes (house highest) N S) (unclashed f network sheet) (λ i l. refl)

  module _ (n : ℕ) (e : n ≡ node_count network) where
    -- a row without an entry
    module _ (missing : ℕ) (m : missing ≡ first_bad (entered f sheet_lead network sheet) (node_count network)) where
      module _ (l : missing < n) (r : Refusal) (d : r ≡ record { class = NoEntry; place = node_id f network missing }) where
        said_17 : cut_said f network sheet k ≡ refusing r
        unfolding cut_said cut
        said_17 = rw (unentered_is, ← m, lt-ltb missing (node_count network) (omega arith), d)

        pub answer_17 : (room : ℕ) → refusing r ≡ record_answer f room (cut_said f network sheet k)
        answer_17 room = rw said_17

        pub buffer_17 : (out : List ℕ) → out ≡ laid_answer f (cut_said f network sheet k) out
        buffer_17 out = rw said_17

      pub missing_row : missing < n → missing < node_count network
      missing_row l = omega arith

      module _ (l : n ≤ missing) where
        none_missing : unentered N (note S) ≡ none
        none_missing = unentered_is ∙ rw (← m, le-ltb missing (node_count network) (omega arith))

        pub all_found : (found : List ℕ) → Room f network → found ≡ table_after (with_entry f sheet_lead network sheet) missing (replicate 1024 0)
            → EntryRows f sheet_lead network sheet found
        all_found found r d = entry_rows_lem f sheet_lead network sheet missing found r m (omega arith) d

        pub all_entered : AllEntered f network sheet
        unfolding AllEntered
        all_entered = none_missing

    -- no own node with the number asked, or one
    module _ (h : AllEntered f network sheet) (fragments : List ℕ) (m : Numbered f network sheet fragments) (asked : ℕ) (q : asked ≡ first_bad (outside f network fragments k) (node_count network)) where
      module _ (z : asked ≡ n) where
        said_18 : cut_said f network sheet k ≡ refused 18 k
        unfolding cut_said cut AllEntered
        said_18 = rw (h, asked_is fragments m, ← q, eq-eqb asked (node_count network) (z ∙ e))

        pub answer_18 : (room place : ℕ) → place ≡ k → refused 18 place ≡ record_answer f room (cut_said f network sheet k)
        answer_18 room place p = rw (said_18, p)

        pub buffer_18 : (out : List ℕ) → out ≡ laid_answer f (cut_said f network sheet k) out
        buffer_18 out = rw said_18

      pub one_asked : (asked ≡ n → ⊥) → Asked f network sheet k
      unfolding Asked
      one_asked z = asked_is fragments m ∙ rw (← q, ne_eqb asked (node_count network) (λ y. z (y ∙ sym e)))

    -- a row whose promise is not its note, or none
    module _ (h : AllEntered f network sheet) (a : Asked f network sheet k) (clash : ℕ) (q : clash ≡ first_bad (unclashed f network sheet) (node_count network)) where
      module _ (l : clash < n) (r : Refusal) (d : r ≡ record { class = NoteDiffers; place = node_id f network clash }) where
        said_19 : cut_said f network sheet k ≡ refusing r
        unfolding cut_said cut AllEntered Asked
        said_19 = rw (h, a, clash_is, ← q, lt-ltb clash (node_count network) (omega arith), d)

        pub answer_19 : (room : ℕ) → refusing r ≡ record_answer f room (cut_said f network sheet k)
        answer_19 room = rw said_19

        pub buffer_19 : (out : List ℕ) → out ≡ laid_answer f (cut_said f network sheet k) out
        buffer_19 out = rw said_19

      pub clash_row : clash < n → clash < node_count network
      clash_row l = omega arith

      module _ (l : n ≤ clash) where
        said_cut : cut_said f network sheet k ≡ given (fragment_in f network sheet k)
        unfolding cut_said cut fragment_in AllEntered Asked
        said_cut = rw (h, a, clash_is, ← q, le-ltb clash (node_count network) (omega arith))

        pub answer_cut : (room : ℕ) (r : Answer ℕ) → r ≡ in_room room (length (write_network f (fragment_in f network sheet k))) → r ≡ record_answer f room (cut_said f network sheet k)
        answer_cut room r p = rw said_cut p

        pub buffer_cut : (out out' : List ℕ) → out' ≡ placed (write_network f (fragment_in f network sheet k)) out → out' ≡ laid_answer f (cut_said f network sheet k) out
        buffer_cut out out' p = rw said_cut p

pub ruleset cutting_17 = (answer_17, buffer_17, missing_row, all_found, all_entered)

pub ruleset cutting_18 = (answer_18, buffer_18, one_asked)

pub ruleset cutting_19 = (answer_19, buffer_19, clash_row, answer_cut, buffer_cut)
