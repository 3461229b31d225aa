-- Document 000's definition IV.3 in its own names, read on the ids of a network. proofs/PaperCut.antt shows that `fragment` agrees with
-- it point by point, but for the edges, which document 01 mends.
--     init, ass, guar, V_in, V_out, E, trans_at     the parts of an open network
--     demanded                            the demand at a box, which document 01 adds
--     W .. guar_k                         the parts of fragment k, as the paper has them
--     AgreesWithPaper                     what is shown of the fragment
--     MadeUp                              a mapping that is made up of one mapping for each fragment (theorem IV.1)
use Rattle.std.specs.Prelude.{◌≡◌, Bool, true, cond, not, ◌&&◌, ◌||◌, ℕ, eqb}
use Rattle.std.proofs.Math.Option.{Option, none, some, map}
use Rattle.lists.specs.All.{any}
use Rattle.lists.specs.Sorted.{find}
use Rattle.networks.specs.Algebra.{Algebra}
use Rattle.networks.specs.Network.{Box, own, input, Wire, Network, NetworkOver, box, has_box, owns, wires_into}
use Rattle.networks.specs.Sheets.{Sheet, number, note}
use Rattle.lists.specs.Answer.{is_some}
use Rattle.networks.specs.Solution.{trans}
use Rattle.networks.specs.Cut.{is_cut, leaves, fragment}

module _ {R D : Type 0} where
  abbrev pub initial_of : Option (Box R D) → Option R
  initial_of none = none
  initial_of (some (own b)) = some b.initial
  initial_of (some (input a)) = none

  abbrev pub assumed_of : Option (Box R D) → Option R
  assumed_of none = none
  assumed_of (some (own b)) = none
  assumed_of (some (input a)) = some a.assumed

  abbrev pub promise_of : Option (Box R D) → Option R
  promise_of none = none
  promise_of (some (own b)) = b.promise
  promise_of (some (input a)) = none

  abbrev pub demanded_of : Option (Box R D) → Option D
  demanded_of none = none
  demanded_of (some (own b)) = some b.demand
  demanded_of (some (input a)) = none

-- the wire is one from u to v
abbrev pub between : ℕ → ℕ → Wire → Bool
between u v w = eqb w.from u && eqb w.to v

module _ {R P D : Type 0} (N : Network R P D) where
  -- init, ass and guar are partial; V_in is where ass is defined, V_out where guar is
  abbrev pub init : ℕ → Option R
  init u = initial_of (box N u)

  abbrev pub ass : ℕ → Option R
  ass u = assumed_of (box N u)

  abbrev pub guar : ℕ → Option R
  guar u = promise_of (box N u)

  abbrev pub V_in : ℕ → Bool
  V_in u = is_some (ass u)

  abbrev pub V_out : ℕ → Bool
  V_out u = is_some (guar u)

  -- uv ∈ E
  abbrev pub E : ℕ → ℕ → Bool
  E u v = any (between u v) N.wires

  -- the wire that is uv: of the wires into v the one from u
  abbrev pub edge : ℕ → ℕ → Option Wire
  edge u v = find (λ (w : Wire). w.from) u (wires_into N v)

  -- the demand at u. The paper has its property P beside the network.
  abbrev pub demanded : ℕ → Option D
  demanded u = demanded_of (box N u)

-- trans(uv, r) by the ends of the edge, defined where uv ∈ E: the policy of the wire from u to v, applied to r.
abbrev pub trans_at : (𝓐 : Algebra) → NetworkOver 𝓐 → ℕ → ℕ → 𝓐.Route → Option 𝓐.Route
trans_at 𝓐 N u v r = map (λ (w : Wire). trans 𝓐 N w r) (edge N u v)

-- The interface I has the cut wires as its domain, and I(uv) is the note of u.
module _ {R P D : Type 0} (N : Network R P D) (S : Sheet R) (k : ℕ) where
  -- v ∈ Wₖ: the part that the cut set leaves together
  abbrev pub W : ℕ → Bool
  W v = owns N v && eqb (number S v) k

  -- ∃ uv ∈ E. v ∈ Wₖ
  abbrev pub wired_into : ℕ → Bool
  wired_into u = any (λ (w : Wire). eqb w.from u && W w.to) N.wires

  -- ∃ uv ∈ dom(I). v ∈ Wₖ
  abbrev pub cut_wire_into : ℕ → Bool
  cut_wire_into u = any (λ (w : Wire). eqb w.from u && (is_cut N S w && W w.to)) N.wires

  abbrev pub V_in_k : ℕ → Bool
  V_in_k u = (V_in N u && wired_into u) || cut_wire_into u

  abbrev pub V_out_k : ℕ → Bool
  V_out_k u = (W u && V_out N u) || (W u && leaves N S u)

  abbrev pub V_k : ℕ → Bool
  V_k u = W u || V_in_k u

  -- all edges among the fragment's boxes, before the mending
  abbrev pub E_k : ℕ → ℕ → Bool
  E_k u v = V_k u && (V_k v && E N u v)

  abbrev pub ass_k : ℕ → Option R
  ass_k u = cond (V_in N u) (ass N u) (note S u)

  abbrev pub guar_k : ℕ → Option R
  guar_k u = cond (V_out N u) (guar N u) (note S u)

-- F is fragment k of N, point by point.
pub record AgreesWithPaper (𝓐 : Algebra) (N : NetworkOver 𝓐) (S : Sheet 𝓐.Route) (k : ℕ) (F : NetworkOver 𝓐) : Type 0 where
  pub boxes : (u : ℕ) → has_box F u ≡ V_k N S k u
  pub owned : (u : ℕ) → owns F u ≡ W N S k u
  pub inputs : (u : ℕ) → V_in F u ≡ V_in_k N S k u
  pub outputs : (u : ℕ) → V_out F u ≡ V_out_k N S k u
  -- the mended edges: the paper's, less those that lead into an input
  pub edges : (u v : ℕ) → E F u v ≡ E_k N S k u v && not (V_in_k N S k v)
  -- init where equation 6 reads it, trans at every edge that is kept, ass at the inputs, guar at the outputs
  pub inits : (u : ℕ) → W N S k u ≡ true → init F u ≡ init N u
  pub transfers : (u v : ℕ) → E F u v ≡ true → (r : 𝓐.Route) → trans_at 𝓐 F u v r ≡ trans_at 𝓐 N u v r
  pub assumptions : (u : ℕ) → V_in_k N S k u ≡ true → ass F u ≡ ass_k N S k u
  pub guarantees : (u : ℕ) → V_out_k N S k u ≡ true → guar F u ≡ guar_k N S k u
  -- what document 01 has besides: the demands of the fragment's own boxes, and all policies in order
  pub demands : (u : ℕ) → W N S k u ≡ true → demanded F u ≡ demanded N u
  pub policies : F.policies ≡ N.policies

-- At the boxes of a fragment the mapping has the routes of that fragment's own mapping. The paper asks for the assumed routes at the
-- network's inputs too; that follows, since every input feeds a fragment.
abbrev pub MadeUp : {R P D : Type 0} → Network R P D → Sheet R → (ℕ → R) → (ℕ → ℕ → R) → Type 0
MadeUp N S ℒ parts = (k i : ℕ) → has_box (fragment N S k) i ≡ true → ℒ i ≡ parts k i
