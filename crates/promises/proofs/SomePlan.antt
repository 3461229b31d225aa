-- There is a plan of all fragments, so that the statements about every plan are about something: the numbers of the own boxes, each once, with
-- every part but the last joined to what is behind it.
use mathlib.Core.Path.{◌≡◌, refl, sym, ap, subst}
use mathlib.Core.Bool.{Bool, true, false, cond, false≢true}
use mathlib.Core.List.{List, [], ◌∷◌}
use Prim.Native.Nat.{ℕ, ◌<◌}
use native.Mathlib.Omega.{arith}
use lib.ListN.{length}
use borrow.Author.Tests.{eq-eqb, eqb-false}
use Rattle.lists.specs.All.{All, any, Distinct}
use Rattle.lists.proofs.All.{all_map, any_false, any_here}
use Rattle.lists.proofs.Test.{or_i_l, or_i_r}
use Rattle.routes.specs.declared.Demand.{Demand}
use Rattle.routes.specs.declared.Route.{Route}
use Rattle.networks.specs.Cut.{only, numbered}
use Rattle.networks.specs.Network.{Own, own_boxes}
use Rattle.networks.specs.Reunion.{Plan, part, both, numbers, among}
use Rattle.networks.specs.Sheets.{number}
use Rattle.layout.specs.Form.{form_of}
use Rattle.layout.specs.declared.Form.{Form}
use Rattle.reading.specs.Whole.{HouseNetwork, HouseSheet, network_of, sheet_of}
use Rattle.reading.proofs.Bridges.{read_network_lem}
use Rattle.promises.specs.Reunion.{AllRoomy, Whole, SomePlan}
use Rattle.promises.proofs.Demand3.{blank, blank_roomy}

-- a number before others, unless it is among them
abbrev adding : ℕ → List ℕ → List ℕ
adding n ks = cond (among ks n) ks (n ∷ ks)

-- what holds of the others with the number, and without where they have it
adding_is : (P : List ℕ → Type 0) (n : ℕ) (ks : List ℕ) → (among ks n ≡ true → P ks) → (among ks n ≡ false → P (n ∷ ks)) → P (adding n ks)
adding_is P n ks f g = go (among ks n) refl
  where
    go : (t : Bool) → among ks n ≡ t → P (cond t ks (n ∷ ks))
    go true q = f q
    go false q = g q

adding_distinct : (n : ℕ) (ks : List ℕ) → Distinct ks → Distinct (adding n ks)
adding_distinct n ks h = adding_is Distinct n ks (λ q. h)
    (λ q. (all_map ks (λ k e. eqb-false n k e) (any_false (λ (k : ℕ). only k n) ks q), h))

adding_here : (n : ℕ) (ks : List ℕ) → among (adding n ks) n ≡ true
adding_here n ks = adding_is (λ (js : List ℕ). among js n ≡ true) n ks (λ q. q) (λ q. or_i_l (only n n) (among ks n) (eq-eqb n n refl))

adding_there : (n m : ℕ) (ks : List ℕ) → among ks m ≡ true → among (adding n ks) m ≡ true
adding_there n m ks t = adding_is (λ (js : List ℕ). among js m ≡ true) n ks (λ q. t) (λ q. or_i_r (only n m) (among ks m) t)

adding_all : (P : ℕ → Type 0) (n : ℕ) (ks : List ℕ) → P n → All P ks → All P (adding n ks)
adding_all P n ks p h = adding_is (All P) n ks (λ q. h) (λ q. (p, h))

-- each part but the last joined to what is behind it
abbrev plan_of : List ℕ → ℕ → List ℕ → Plan (List ℕ)
plan_of out k [] = part k out
plan_of out k (j ∷ js) = both (part k out) (plan_of out j js) out

plan_numbers : (out : List ℕ) (k : ℕ) (js : List ℕ) → numbers (plan_of out k js) ≡ k ∷ js
plan_numbers out k [] = refl
plan_numbers out k (j ∷ js) = ap (λ (is : List ℕ). k ∷ is) (plan_numbers out j js)

plan_roomy : (f : Form) (k : ℕ) (js : List ℕ) → AllRoomy f (plan_of (blank f) k js)
plan_roomy f k [] = blank_roomy f
plan_roomy f k (j ∷ js) = (blank_roomy f, plan_roomy f j js, blank_roomy f)

module _ (network sheet : List ℕ) where
  abbrev N : HouseNetwork
  N = network_of network

  abbrev S : HouseSheet
  S = sheet_of sheet

  -- the numbers of some boxes, each once
  abbrev each : List (Own Route Demand) → List ℕ
  each [] = []
  each (b ∷ bs) = adding (number S b.id) (each bs)

  each_once : (bs : List (Own Route Demand)) → Distinct (each bs)
  each_once [] = tt
  each_once (b ∷ bs) = adding_distinct (number S b.id) (each bs) (each_once bs)

  each_there : (P : ℕ → Type 0) (bs : List (Own Route Demand)) → All (λ (b : Own Route Demand). P (number S b.id)) bs → All P (each bs)
  each_there P [] h = tt
  each_there P (b ∷ bs) h = adding_all P (number S b.id) (each bs) h.0 (each_there P bs h.1)

  each_every : (bs : List (Own Route Demand)) → All (λ (b : Own Route Demand). among (each bs) (number S b.id) ≡ true) bs
  each_every [] = tt
  each_every (b ∷ bs) = (
    adding_here (number S b.id) (each bs),
    all_map bs (λ c t. adding_there (number S b.id) (number S c.id) (each bs) t) (each_every bs),
  )

  pub some_plan : SomePlan network sheet
  some_plan small n = go (each (own_boxes N)) (each_once (own_boxes N)) there (each_every (own_boxes N)) (own_boxes N) refl (read_network_lem network small n).0.some_own
    where
      there : All (λ (k : ℕ). any (numbered N S k) (own_boxes N) ≡ true) (each (own_boxes N))
      there = each_there (λ (k : ℕ). any (numbered N S k) (own_boxes N) ≡ true) (own_boxes N)
          (all_map (own_boxes N) (λ b h. h (numbered N S (number S b.id)) (eq-eqb (number S b.id) (number S b.id) refl)) (any_here (own_boxes N)))

      go : (ks : List ℕ) → Distinct ks → All (λ (k : ℕ). any (numbered N S k) (own_boxes N) ≡ true) ks
          → All (λ (b : Own Route Demand). among ks (number S b.id) ≡ true) (own_boxes N)
          → (bs : List (Own Route Demand)) → own_boxes N ≡ bs → 0 < length bs → (plan : Plan (List ℕ)) × Whole network sheet plan
      go ks once t every [] q l = absurd (omega arith)
      go [] once t every (b ∷ bs) q l = absurd (false≢true
          (subst (All (λ (c : Own Route Demand). among [] (number S c.id) ≡ true)) q every).0)
      go (k ∷ js) once t every (b ∷ bs) q l =
          let same = sym (plan_numbers (blank (form_of network)) k js) in (
            plan_of (blank (form_of network)) k js,
            record {
              once = subst Distinct same once;
              there = subst (All (λ (i : ℕ). any (numbered N S i) (own_boxes N) ≡ true)) same t;
              every = subst (λ (is : List ℕ). All (λ (c : Own Route Demand). among is (number S c.id) ≡ true) (own_boxes N)) same every;
              roomy = plan_roomy (form_of network) k js;
            },
          )
