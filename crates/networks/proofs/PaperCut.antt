-- The fragment agrees point by point with definition IV.3 of document 000: own boxes, inputs, outputs, init, trans, ass and guar are the
-- paper's, demands and policies the network's. The edges are the paper's less those that lead into an input, as document 01 mends them.
-- trans by the two ends of an edge is what its wire makes of a route: rising wires are told apart by their ends.
use mathlib.Core.Path.{◌≡◌, refl, ap, ◌∙◌}
use mathlib.Core.Option.{Option, none, some, map}
use Prim.Native.Nat.{ℕ}
use Rattle.networks.specs.Algebra.{Algebra}
use Rattle.lists.specs.All.{All}
use Rattle.lists.proofs.All.{all_map}
use Rattle.lists.specs.Answer.{is_some}
use Rattle.networks.specs.Network.{Wire, NetworkOver}
use Rattle.networks.specs.Sound.{Bounds, Sound}
use Rattle.networks.specs.Sheets.{Sheet}
use Rattle.networks.specs.Cut.{fragment_of, fragment, Cuts}
use Rattle.networks.specs.Solution.{trans}
use Rattle.networks.specs.Paper.{E, edge, trans_at, AgreesWithPaper}
use Rattle.networks.proofs.Laws.Wires.{edge_there, edge_wire}
use Rattle.networks.proofs.Laws.Formed.{sound_formed}
use Rattle.networks.proofs.Laws.Cutting.{cuts_fits}
use Rattle.networks.proofs.Laws.Points.{at_every, there, edge_at, trans_at_lem}

pub paper_cut : (𝓐 : Algebra) (B : Bounds) (N : NetworkOver 𝓐) (S : Sheet 𝓐.Route) (k : ℕ)
    → Sound B N → Cuts 𝓐 N S → AgreesWithPaper 𝓐 N S k (fragment N S k)
unfolding fragment_of
paper_cut 𝓐 B N S k sound cuts =
    let formed = sound_formed B N sound in
    let entered = ((cuts_fits 𝓐 N S B sound).0 cuts).entered in
    record {
      boxes = there N S k formed entered;
      owned = λ u. (at_every N S k formed entered u).own_at;
      inputs = λ u. (at_every N S k formed entered u).input_at;
      outputs = λ u. (at_every N S k formed entered u).output_at_lem;
      edges = edge_at N S k formed entered;
      inits = λ u. (at_every N S k formed entered u).init_at;
      transfers = trans_at_lem 𝓐 N S k;
      assumptions = λ u. (at_every N S k formed entered u).ass_at;
      guarantees = λ u. (at_every N S k formed entered u).guar_at;
      demands = λ u. (at_every N S k formed entered u).demand_at_lem;
      policies = refl;
    }

-- trans is defined exactly at the edges
pub trans_defined : (𝓐 : Algebra) (N : NetworkOver 𝓐) (u v : ℕ) (r : 𝓐.Route) → is_some (trans_at 𝓐 N u v r) ≡ E N u v
trans_defined 𝓐 N u v r = go (edge N u v) ∙ edge_there N u v
  where
    go : (o : Option Wire) → is_some (map (λ (w : Wire). trans 𝓐 N w r) o) ≡ is_some o
    go none = refl
    go (some w) = refl

-- at the ends of a wire it is what equation 6 reads of that wire
pub trans_wire : (𝓐 : Algebra) (B : Bounds) (N : NetworkOver 𝓐) → Sound B N
    → All (λ (w : Wire). (r : 𝓐.Route) → trans_at 𝓐 N w.from w.to r ≡ some (trans 𝓐 N w r)) N.wires
trans_wire 𝓐 B N sound = all_map N.wires (λ w e r. ap (map (λ (x : Wire). trans 𝓐 N x r)) e) (edge_wire N sound.wires_rise)
