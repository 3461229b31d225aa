-- What is read fits its bytes, and so does a fragment of it: every number of a fragment stands in the network's bytes or in the sheet's.
--     network_fits, sheet_fits, list_fits     what is read from records that are not refused
--     fragment_fits                           a fragment of what fits
use mathlib.Core.Path.{◌≡◌, refl, subst}
use mathlib.Core.Bool.{Bool, true, false, cond}
use mathlib.Core.List.{List}
use mathlib.Core.Option.{Option, none, some, map, none-ne-some, some-injective}
use Prim.Native.Nat.{ℕ}
use Rattle.lists.specs.All.{All}
use Rattle.lists.proofs.All.{all_map}
use Rattle.lists.specs.Bytes.{Bytes}
use Rattle.lists.proofs.Filter.{all_filter, all_filter_map}
use Rattle.lists.proofs.Rows.{all_rows}
use Rattle.lists.proofs.Sorted.{find_all}
use Rattle.lists.specs.Stride.{at}
use Rattle.routes.specs.Form.{policy_at}
use Rattle.routes.proofs.PolicyCodec.{PolicyFits, policy_read_fits}
use Rattle.routes.specs.declared.Demand.{Demand}
use Rattle.routes.specs.declared.Route.{Route}
use Rattle.networks.specs.Network.{Box, own, input}
use Rattle.networks.specs.Sheets.{SheetEntry, sheet_entry, number, note}
use Rattle.networks.specs.Cut.{promised, leaves, feeds, promising_own, assuming, piece, fragment_of}
use Rattle.layout.specs.Layout.{entry_count, node_count, edge_count, policy_count, policy_offset, node_part, edge_part}
use Rattle.records.specs.Network.{NetworkFine}
use Rattle.layout.specs.Form.{node_width, entry_width, list_lead, sheet_lead}
use Rattle.nodes.specs.Policy.{policy_ok}
use Rattle.layout.specs.declared.Form.{Form}
use Rattle.reading.specs.Parts.{box_at, wire_at, sheet_entry_at, list_entry_at}
use Rattle.reading.specs.Whole.{HouseNetwork, HouseSheet, read_network, read_sheet, read_list}
use Rattle.reading.proofs.BoxCodec.{BoxFits, box_read_fits}
use Rattle.reading.proofs.DemandCodec.{PromiseFits}
use Rattle.reading.proofs.NetworkBytes.{NetworkFits}
use Rattle.reading.proofs.RowCodecs.{WireFits, SheetEntryFits, ListEntryFits, wire_read_fits, sheet_entry_read_fits, list_entry_read_fits}

module _ (f : Form) (b : List ℕ) (small : Bytes b) where
  pub network_fits : NetworkFine f b → NetworkFits (read_network f b)
  unfolding read_network policy_ok policy_offset
  network_fits fine = record {
    policies_fit = all_rows (policy_at b) 13 PolicyFits 10 (policy_count b) (λ i l. policy_read_fits b (at 10 13 i) (small, fine.policies i l));
    boxes_fit = all_rows (box_at f.route b) (node_width f) BoxFits (node_part b) (node_count b) (λ i l. box_read_fits f.route b (at (node_part b) (node_width f) i) small);
    wires_fit = all_rows (wire_at b) 5 WireFits (edge_part f b) (edge_count b) (λ i l. wire_read_fits b (at (edge_part f b) 5 i) small);
  }

  pub sheet_fits : All SheetEntryFits (read_sheet f b)
  unfolding read_sheet
  sheet_fits = all_rows (sheet_entry_at f.route b) (entry_width f sheet_lead) SheetEntryFits 7 (entry_count b)
      (λ i l. sheet_entry_read_fits f.route b (at 7 (entry_width f sheet_lead) i) small)

  pub list_fits : All ListEntryFits (read_list f b)
  unfolding read_list
  list_fits = all_rows (list_entry_at f.route b) (entry_width f list_lead) ListEntryFits 7 (entry_count b)
      (λ i l. list_entry_read_fits f.route b (at 7 (entry_width f list_lead) i) small)

module _ (N : HouseNetwork) (S : HouseSheet) (fits : NetworkFits N) (noted : All SheetEntryFits S) (κ : ℕ → Bool) where
  note_fits : (i : ℕ) → PromiseFits (note S i)
  unfolding note
  note_fits i = go (sheet_entry S i) refl
    where
      go : (o : Option (SheetEntry Route)) → sheet_entry S i ≡ o → PromiseFits (map (λ (e : SheetEntry Route). e.note) o)
      go none q = tt
      go (some e) q = (find_all (λ (x : SheetEntry Route). x.id) SheetEntryFits i S e noted q).2

  promised_fits : (p : Option Route) (left : Bool) (n : Option Route) → PromiseFits p → PromiseFits n → PromiseFits (promised p left n)
  promised_fits (some q) left n h k = h
  promised_fits none true n h k = k
  promised_fits none false n h k = tt

  piece_fits : (v : Box Route Demand) → BoxFits v → (w : Box Route Demand) → piece N S κ v ≡ some w → BoxFits w
  piece_fits (own v) h w e = go (κ (number S v.id)) (feeds N S κ v.id) (note S v.id) (note_fits v.id) e
    where
      go : (s t : Bool) (n : Option Route) → PromiseFits n → cond s (some (own (promising_own N S v))) (cond t (map (assuming v) n) none) ≡ some w → BoxFits w
      go true t n k q = subst BoxFits (some-injective _ _ q) (h.0, h.1, promised_fits v.promise (leaves N S v.id) (note S v.id) h.2 (note_fits v.id), h.3)
      go false true (some n) k q = subst BoxFits (some-injective _ _ q) (h.0, k)
      go false true none k q = absurd (none-ne-some _ q)
      go false false n k q = absurd (none-ne-some _ q)
  piece_fits (input v) h w e = go (feeds N S κ v.id) e
    where
      go : (t : Bool) → cond t (some (input v)) none ≡ some w → BoxFits w
      go true q = subst BoxFits (some-injective _ _ q) h
      go false q = absurd (none-ne-some _ q)

  pub fragment_fits : NetworkFits (fragment_of N S κ)
  unfolding fragment_of
  fragment_fits = record {
    policies_fit = fits.policies_fit;
    boxes_fit = all_filter_map BoxFits (piece N S κ) N.boxes (all_map N.boxes piece_fits fits.boxes_fit);
    wires_fit = all_filter WireFits _ N.wires (all_map N.wires (λ w h e. h) fits.wires_fit);
  }
