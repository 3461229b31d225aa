-- Cutting (document 01; document 000, definitions IV.2 and IV.3, with the edges mended and one note a box).
--     is_cut, leaves, feeds     cut wires; the boxes that they leave; the boxes with a wire into a fragment
--     promised .. piece        what a fragment keeps of a box
--     fragment_of, fragment     the fragment of a set of numbers, and of one number
--     cut, cut_twice, Cuts      the cutter's answer; one cut upon another; a sheet cuts a network
--     Agrees, Third            what demand 3 asks of a list and of three sheets
use Rattle.std.specs.Prelude.{◌≡◌, Bool, true, false, cond, not, ◌&&◌, ◌↔◌, ℕ, eqb}
use Rattle.std.proofs.Math.Option.{Option, none, some, map}
use mathlib.Core.List.{filter_map, List, ◌∷◌, []}
use Rattle.lists.specs.All.{All, any}
use Rattle.lists.specs.Filter.{filter}
use Rattle.networks.specs.Algebra.{Algebra}
use Rattle.networks.specs.Network.{Own, Box, own, input, Wire, Network, own_boxes, owns}
use Rattle.networks.specs.Sheets.{Sheet, number, note}
use Rattle.lists.specs.Answer.{Answer, given, refused, and_then, is_some, row}
use Rattle.networks.specs.Lowest.{lowest, unentered}
use Rattle.lists.specs.Test.{first_applying}

-- A network's own promise stays. Without one the note is promised where a cut wire leaves, and otherwise nothing.
abbrev pub promised : {R : Type 0} → Option R → Bool → Option R → Option R
promised (some q) left noted = some q
promised none true noted = noted
promised none false noted = none

-- the set of one number
abbrev pub only : ℕ → ℕ → Bool
only k n = eqb n k

-- an own box in a fragment that it feeds and is not in: an input that is assumed to hold the note
abbrev pub assuming : {R D : Type 0} → Own R D → R → Box R D
assuming b n = input (record { id = b.id; assumed = n })

module _ {R P D : Type 0} (N : Network R P D) (S : Sheet R) where
  -- A cut wire joins two own boxes with different numbers.
  abbrev pub is_cut : Wire → Bool
  is_cut w = owns N w.to && (owns N w.from && not (eqb (number S w.to) (number S w.from)))

  -- a cut wire leaves the box
  unfoldable pub leaves : ℕ → Bool
  leaves i = any (λ (w : Wire). eqb w.from i && is_cut w) N.wires

  -- the box has a wire to a box with a number among κ
  unfoldable pub feeds : (ℕ → Bool) → ℕ → Bool
  feeds κ i = any (λ (w : Wire). eqb w.from i && κ (number S w.to)) N.wires

  -- an own box in its own fragment
  abbrev pub promising_own : Own R D → Own R D
  promising_own b = record {
    id = b.id;
    initial = b.initial;
    promise = promised b.promise (leaves b.id) (note S b.id);
    demand = b.demand;
  }

  -- What the fragment with the numbers κ keeps of a box: its own boxes, and as inputs the boxes that feed it.
  abbrev pub piece : (ℕ → Bool) → Box R D → Option (Box R D)
  piece κ (own b) = cond (κ (number S b.id)) (some (own (promising_own b)))
      (cond (feeds κ b.id) (map (assuming b) (note S b.id)) none)
  piece κ (input a) = cond (feeds κ a.id) (some (input a)) none

  -- Wires are kept by their to end alone. The paper keeps all wires among the fragment's boxes, some of which would lead into inputs.
  unfoldable pub fragment_of : (ℕ → Bool) → Network R P D
  fragment_of κ = record {
    policies = N.policies;
    boxes = filter_map (piece κ) N.boxes;
    wires = filter (λ (w : Wire). κ (number S w.to)) N.wires;
  }

  abbrev pub fragment : ℕ → Network R P D
  fragment k = fragment_of (only k)

  -- the own box is in fragment k
  abbrev pub numbered : ℕ → Own R D → Bool
  numbered k b = eqb (number S b.id) k

  -- the entries of `route` are the notes at the boxes that cut wires leave
  abbrev pub Agrees : (ℕ → Option R) → Type 0
  Agrees route = All (λ (b : Own R D). leaves b.id ≡ true → route b.id ≡ note S b.id) (own_boxes N)

module _ (𝓐 : Algebra) where
  open 𝓐 use {Route, Policy, Demand, same}

  -- a promise that is not the note
  abbrev pub off_note : Option Route → Option Route → Bool
  off_note none noted = false
  off_note (some q) none = true
  off_note (some q) (some n) = not (same q n)

  -- a cut wire leaves a box whose promise is not its note
  abbrev pub clashes : Network Route Policy Demand → Sheet Route → Own Route Demand → Bool
  clashes N S b = leaves N S b.id && off_note b.promise (note S b.id)

  -- the same as a fact
  abbrev pub Clashes : Network Route Policy Demand → Sheet Route → Own Route Demand → Type 0
  Clashes N S b = (leaves N S b.id ≡ true) × ((q : Route) × (b.promise ≡ some q) × (note S b.id ≡ some q → ⊥))

  -- what is refused: an own box without an entry; a number that no own box has; a promise that is not the note of a box that a cut
  -- wire leaves
  abbrev pub cut_table : Network Route Policy Demand → Sheet Route → ℕ → {A : Type 0} → List (Bool × Answer A)
  cut_table N S k =
      row 17 (unentered N (note S)) ∷
      row 18 (cond (any (numbered N S k) (own_boxes N)) none (some k)) ∷
      row 19 (lowest (clashes N S) (own_boxes N)) ∷
      []

  unfoldable pub cut : Network Route Policy Demand → Sheet Route → ℕ → Answer (Network Route Policy Demand)
  cut N S k = first_applying (cut_table N S k) (given (fragment N S k))

  -- Fragment x by one sheet, and of that fragment y by another.
  abbrev pub cut_twice : Network Route Policy Demand → Sheet Route → ℕ → Sheet Route → ℕ → Answer (Network Route Policy Demand)
  cut_twice N X x Y y = and_then (cut N X x) (λ (F : Network Route Policy Demand). cut F Y y)

  -- A sheet cuts a network where cutting by it can meet no refusal but 18. (20 is about a buffer's room.)
  abbrev pub Cuts : Network Route Policy Demand → Sheet Route → Type 0
  Cuts N S = (k n place : ℕ) → cut N S k ≡ refused n place → n ≡ 18

-- The third of three sheets with the same boxes and notes keeps two boxes together exactly where both others do.
pub record Third {R : Type 0} (X Y Z : Sheet R) : Type 0 where
  pub first_notes : (i : ℕ) → note X i ≡ note Z i
  pub second_notes : (i : ℕ) → note Y i ≡ note Z i
  pub together : (u v : ℕ) → is_some (note Z u) ≡ true → is_some (note Z v) ≡ true
      → (number Z u ≡ number Z v) ↔ ((number X u ≡ number X v) × (number Y u ≡ number Y v))
