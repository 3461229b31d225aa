-- What a sound record says adds at every policy, and so what comes over a wire of it costs more than before, whatever the highest cost.
use mathlib.Core.Path.{◌≡◌, sym, ◌∙◌, subst}
use mathlib.Core.List.{List}
use Prim.Native.Nat.{ℕ, ◌≤◌, ◌<◌}
use Rattle.lists.specs.Stride.{at}
use Rattle.lists.proofs.Rows.{all_rows}
use Rattle.routes.specs.Form.{policy_at}
use Rattle.routes.specs.declared.Fields.{Fields}
use Rattle.routes.specs.declared.Policy.{Policy}
use Rattle.routes.specs.declared.Route.{Route}
use Rattle.routes.specs.declared.Route.TheVariants.{Held}
use Rattle.routes.proofs.Carried.{none_held}
use Rattle.routes.proofs.PolicyCodec.{formed_adds}
use Rattle.networks.specs.Network.{Wire}
use Rattle.networks.specs.Solution.{trans}
use Rattle.networks.proofs.Laws.Wires.{trans_dearer}
use Rattle.layout.specs.Layout.{policy_count, policy_offset}
use Rattle.layout.specs.declared.Form.{Form}
use Rattle.nodes.specs.Policy.{policy_ok}
use Rattle.records.specs.Network.{NetworkFine}
use Rattle.reading.specs.Adding.{Adding}
use Rattle.reading.specs.House.{house, cost_of}
use Rattle.reading.specs.Whole.{HouseNetwork, read_network}
use Rattle.reading.proofs.HouseRoutes.{house_costs}

pub fine_adds : (f : Form) (b : List ℕ) → NetworkFine f b → Adding (read_network f b)
unfolding read_network policy_ok policy_offset policy_at
fine_adds f b fine =
    all_rows (policy_at b) 13 (λ (p : Policy). 1 ≤ p.added) 10 (policy_count b) (λ i l. formed_adds b (at 10 13 i) (fine.policies i l))

pub wire_dearer : (top : ℕ) (N : HouseNetwork) → Adding N → (w : Wire) (f g : Fields) → trans (house top) N w (Held f) ≡ Held g → f.cost < g.cost
wire_dearer top N adds w f g e = subst (λ (r : Route). f.cost < cost_of r) e
    (trans_dearer (house top) (house_costs top) N adds w (Held f) (λ z. none_held (sym z ∙ e)))
