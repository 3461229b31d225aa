-- What the lookup's bytes say (document 01, 'Judging'), where judging is not refused and a node has the id.
--     neighbour_route     the route that they say is the one that the list maps the box to
--     neighbour_long      they are as many as a route has, so that an empty part is always a refusal
use mathlib.Core.Path.{◌≡◌, sym, ap, ◌∙◌}
use mathlib.Core.Bool.{true}
use mathlib.Core.List.{List}
use Prim.Native.Nat.{ℕ, ◌<◌}
use lib.ListN.{length}
use Rattle.routes.specs.Form.{route_at}
use Rattle.routes.specs.declared.Route.{Route}
use Rattle.lists.specs.Answer.{given}
use Rattle.reading.specs.House.{house}
use Rattle.networks.specs.Judge.{Verdict}
use Rattle.networks.specs.Solution.{mapping}
use Rattle.records.specs.Edge.{boxed}
use Rattle.records.specs.Entered.{entry_in}
use Rattle.layout.specs.Layout.{entry_count, Room, node_count}
use Rattle.entries.specs.Entries.{EntriesFine}
use Rattle.records.specs.Network.{NetworkFine}
use Rattle.records.proofs.Fine.{network_fine, fine_room}
use Rattle.entries.proofs.Fine.{entries_fine}
use Rattle.layout.specs.Form.{list_lead, form_of}
use Rattle.nodes.specs.Node.{row_of, is_own}
use Rattle.records.proofs.RowLaws.{ids_rise, row_within, row_found}
use Rattle.reading.specs.Whole.{read_network, read_list, network_of, list_of}
use Rattle.routes.specs.Carry.{highest}
use Rattle.judging.specs.Judging.{judge_records}
use Rattle.preparing.specs.Parts.{row_part, named_part}
use Rattle.judging.specs.Neighbour.{neighbour_bytes}
use Rattle.preparing.specs.Prepared.{prepare_refusal}
use Rattle.judging.proofs.EntryLaws.{judge_is}
use Rattle.preparing.proofs.GivenLaws.{given_form, given_sound, given_formed, given_entered}
use Rattle.preparing.proofs.PartLaws.{row_long, row_route}
use Rattle.lists.proofs.Answer.{then_given}
use Rattle.layout.specs.declared.Form.{Form}
use Rattle.layout.proofs.OneForm.{one_form, form_usable}

module _ (network list : List ℕ) (id : ℕ) (v : Verdict Route) (e : judge_records network list ≡ given v) (q : boxed (form_of network) network id ≡ true) where
  abbrev f : Form
  f = form_of network

  -- nothing is refused before the search
  told : prepare_refusal network list ≡ given f
  told =
      let p = then_given (prepare_refusal network list) _ v (sym (judge_is network list) ∙ e) in
      p.1 ∙ ap given (sym (given_form network list p.0 p.1))

  sound : NetworkFine f network
  sound = network_fine network (given_sound network list f told)

  one : form_of list ≡ f
  one = one_form list network

  formed : EntriesFine f list_lead list
  formed = rw (← one) (entries_fine list_lead list (given_formed network list f told))

  there : row_of f network id < node_count network
  there = row_within f network id q

  row_entered : is_own f network (row_of f network id) ≡ true → entry_in f list_lead network list (row_of f network id) < entry_count list
  row_entered = given_entered network list f told (row_of f network id) there

  room : Room f network
  room = fine_room f network (form_usable network) sound

  bytes : neighbour_bytes network list id ≡ row_part f network list (row_of f network id)
  unfolding neighbour_bytes named_part
  bytes = rw (e, q)

  pub neighbour_route : route_at f.route (neighbour_bytes network list id) 0 ≡ mapping (house highest) (network_of network) (list_of list) id
  neighbour_route =
      ap (λ (b : List ℕ). route_at f.route b 0) bytes
      ∙ row_route f network list (row_of f network id) room formed there row_entered (ids_rise f network (node_count network) sound.nodes)
      ∙ ap (mapping (house highest) (read_network f network) (read_list f list)) (row_found f network id q)
      ∙ rw one

  pub neighbour_long : length (neighbour_bytes network list id) ≡ f.route
  neighbour_long = ap length bytes ∙ row_long f network list (row_of f network id) room formed there row_entered
