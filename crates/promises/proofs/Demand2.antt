-- Demand 2, proved: the judge's laws on bytes, and the cutter's.
use mathlib.Core.Path.{◌≡◌, refl, sym, ap, ◌∙◌}
use mathlib.Core.Bool.{true, false≢true}
use mathlib.Core.List.{List}
use mathlib.Core.Option.{Option, none, some}
use Prim.Native.Nat.{ℕ}
use Rattle.routes.specs.declared.Demand.{Demand}
use Rattle.routes.specs.declared.Route.{Route}
use Rattle.lists.proofs.Answer.{none_first}
use Rattle.lists.specs.Answer.{given, refused, is_some, NoneApplies}
use Rattle.networks.specs.Lowest.{LowestOwn, unentered}
use Rattle.networks.specs.Cut.{fragment}
use Rattle.networks.specs.Judge.{judge}
use Rattle.networks.specs.Network.{Own}
use Rattle.networks.specs.Sheets.{listed}
use Rattle.networks.proofs.Laws.Lowest.{none_entered}
use Rattle.networks.proofs.Laws.Boxes.{own_fact}
use Rattle.networks.proofs.Laws.Uncut.{same_network}
use Rattle.networks.proofs.Laws.Cutting.{cut_given, cuts_fits}
use Rattle.networks.proofs.PaperCut.{paper_cut}
use Rattle.networks.proofs.Refusals.{judge_refused}
use Rattle.reading.specs.Whole.{HouseNetwork, HouseList, bounds, write_network, network_of, sheet_of, list_of}
use Rattle.reading.proofs.Bridges.{read_network_lem}
use Rattle.judging.specs.Judging.{judge_records}
use Rattle.judging.proofs.OnBytes.{judge_said, judge_passes, pass_judged, judge_finds, found_judged}
use Rattle.cutting.specs.Cutting.{cut_network}
use Rattle.cutting.proofs.OnBytes.{said, cut_fragment, cut_laid, cut_short, record_fine, record_small, record_shorter, record_largest}
use Rattle.promises.specs.Calls.{house1}
use Rattle.promises.specs.Demand2.{PassesExactly, PassCounts, FindsFirst, EntryAsked, CutsFragment, RecordSound, PaperFragment, OneFragment}
use Rattle.promises.proofs.Cuts.{into_given, record_said}
use Rattle.promises.proofs.Demand1.{cut_rows}
use Rattle.layout.specs.Form.{form_of}
use Rattle.promises.specs.Demand1.{fragment_record, cutting_table}

module _ (network list : List ℕ) where
  abbrev N : HouseNetwork
  N = network_of network

  abbrev L : HouseList
  L = list_of list

  pub passes_exactly : PassesExactly network list
  passes_exactly = judge_passes network list

  pub pass_counts : PassCounts network list
  pass_counts = pass_judged network list

  pub finds_first : FindsFirst network list
  finds_first small number node count route e =
      let f = judge_finds network list small number node count route e in
      ((f.0, f.1, f.2), f.3, found_judged network list small number node count route e)

  pub entry_asked : EntryAsked network list
  unfolding judge
  entry_asked small n l w own none_listed = go (unentered N (listed L)) refl
    where
      -- the judge's answer where there is a lowest own box without an entry
      refuses : (i : ℕ) → unentered N (listed L) ≡ some i → judge house1 N L ≡ refused 17 i
      refuses i q = rw q refl

      go : (o : Option ℕ) → unentered N (listed L) ≡ o
          → (place : ℕ) × (judge_records network list ≡ refused 17 place) × LowestOwn N (λ (b : Own Route Demand). listed L b.id ≡ none) place
      go none q = absurd (false≢true (sym (ap is_some none_listed) ∙ own_fact N (λ (i : ℕ). is_some (listed L i) ≡ true) w (none_entered N (listed L) q) own))
      go (some i) q = (
        i,
        judge_said network list n l ∙ refuses i q,
        (judge_refused house1 (bounds (form_of network)) N (read_network_lem network small n).0 L 17 i (refuses i q)).1,
      )

module _ (network sheet : List ℕ) (k : ℕ) where
  abbrev F : List ℕ
  F = fragment_record network sheet k

  fragment_given : NoneApplies (cutting_table network sheet k {A = ℕ}) → cut_network network sheet k ≡ given (fragment (network_of network) (sheet_of sheet) k)
  fragment_given h = cut_rows network sheet k ∙ none_first (cutting_table network sheet k) _ h

  pub cuts_fragment : (out : List ℕ) → CutsFragment network sheet k out
  cuts_fragment out h = (cut_laid network sheet k out _ (fragment_given h), cut_short network sheet k out _ (fragment_given h))

  pub record_sound : RecordSound network sheet k
  record_sound small sheet_small h =
      let e = fragment_given h in (
        record_fine network sheet k small _ e sheet_small,
        record_small network sheet k small _ e sheet_small,
        record_said network sheet k small sheet_small _ e,
        record_shorter network sheet k small _ e,
        record_largest network sheet k small _ e,
      )

  pub paper_fragment : PaperFragment network sheet k
  paper_fragment small sheet_small out left e =
      let g = into_given network sheet k out left e in
      let v = said network sheet k g.0 g.1 in
      let sound = (read_network_lem network small v.0).0 in
      let fits = (cut_given house1 (network_of network) (sheet_of sheet) k g.0 v.2).0 in
      rw (g.2, record_said network sheet k small sheet_small g.0 g.1, cut_fragment network sheet k small g.0 g.1)
      (paper_cut house1 (bounds (form_of network)) (network_of network) (sheet_of sheet) k sound
      ((cuts_fits house1 (network_of network) (sheet_of sheet) (bounds (form_of network)) sound).1 fits))

  pub one_fragment : OneFragment network sheet k
  one_fragment small n one =
      let r = read_network_lem network small n in
      ap (write_network (form_of network)) (same_network (bounds (form_of network)) (network_of network) (sheet_of sheet) k r.0 one) ∙ r.1
