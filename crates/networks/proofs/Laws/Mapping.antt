-- What a list maps the boxes of a fragment to, where it has the notes at the boxes that cut wires leave.
--     kept_mapping     every box that a fragment keeps is mapped to the same route there as in the whole
--     empty_passes     a fragment that nothing is in passes
use mathlib.Core.Path.{◌≡◌, refl, sym, ap, ◌∙◌}
use mathlib.Core.Bool.{Bool, true, false, cond, false≢true}
use mathlib.Core.Option.{Option, none, some, map, get_or, bind}
use Prim.Native.Nat.{ℕ}
use Rattle.lists.specs.All.{any}
use Rattle.lists.proofs.Filter.{filter_none}
use Rattle.networks.specs.Algebra.{Algebra}
use Rattle.networks.specs.Network.{Own, Box, own, input, NetworkOver, is_box, is_own_box, own_boxes, box, has_box}
use Rattle.networks.specs.Sheets.{Sheet, RouteList, number, note, listed}
use Rattle.networks.specs.Solution.{route_of, mapping}
use Rattle.networks.specs.Judge.{verdict_from, judge, Passes}
use Rattle.networks.specs.Cut.{only, leaves, feeds, promising_own, assuming, piece, fragment, numbered, Agrees}
use Rattle.networks.proofs.Laws.Boxes.{own_found, own_there}
use Rattle.networks.proofs.Laws.Pieces.{box_piece, own_boxes_fragment}
use Rattle.networks.proofs.Laws.Formed.{Formed, feeds_leaves}

module _ (𝓐 : Algebra) (N : NetworkOver 𝓐) (S : Sheet 𝓐.Route) (L : RouteList 𝓐.Route) (k : ℕ) where
  open 𝓐 use {Route, Demand, no_route}

  module _ (formed : Formed N) (agrees : Agrees N S (listed L)) where
    -- an own box that feeds the fragment from outside is left by a cut wire, so that its note is its listed route
    kept_route : (i : ℕ) (v : Box Route Demand) → box N i ≡ some v → is_box (piece N S (only k) v) ≡ true
        → route_of L (piece N S (only k) v) ≡ route_of L (some v)
    kept_route i (input a) q = go (feeds N S (only k) a.id)
      where
        go : (t : Bool) → is_box {R = Route} {D = Demand} (cond t (some (input a)) none) ≡ true
            → route_of {R = Route} {D = Demand} L (cond t (some (input a)) none) ≡ some a.assumed
        go true e = refl
        go false e = absurd (false≢true e)
    kept_route i (own b) q = go (only k (number S b.id)) refl (feeds N S (only k) b.id) refl (note S b.id) refl
      where
        owned : is_own_box (box N b.id) ≡ true
        owned = ap is_own_box (own_found N (λ (c : Own Route Demand). box N c.id ≡ some (own c)) i b (own_there N formed.rise) q)

        noted : leaves N S b.id ≡ true → listed L b.id ≡ note S b.id
        noted = own_found N (λ (c : Own Route Demand). leaves N S c.id ≡ true → listed L c.id ≡ note S c.id) i b agrees q

        go : (s : Bool) → only k (number S b.id) ≡ s → (t : Bool) → feeds N S (only k) b.id ≡ t → (n : Option Route) → note S b.id ≡ n
            → is_box (cond s (some (own (promising_own N S b))) (cond t (map (assuming b) n) none)) ≡ true
            → route_of L (cond s (some (own (promising_own N S b))) (cond t (map (assuming b) n) none)) ≡ listed L b.id
        go true c t f n m e = refl
        go false c true f none m e = absurd (false≢true e)
        go false c true f (some n) m e = sym (noted (feeds_leaves N S formed (only k) b.id owned c f) ∙ m)
        go false c false f n m e = absurd (false≢true e)

    pub kept_mapping : (i : ℕ) → has_box (fragment N S k) i ≡ true → mapping 𝓐 (fragment N S k) L i ≡ mapping 𝓐 N L i
    unfolding mapping bind
    kept_mapping i = rw (box_piece N S (only k) formed.rise i) (go (box N i) refl)
      where
        go : (o : Option (Box Route Demand)) → box N i ≡ o → is_box (bind o (piece N S (only k))) ≡ true
            → get_or (route_of L (bind o (piece N S (only k)))) no_route ≡ get_or (route_of L o) no_route
        go none q e = refl
        go (some v) q e = ap (λ (o : Option Route). get_or o no_route) (kept_route i v q e)

  pub empty_passes : any (numbered N S k) (own_boxes N) ≡ false → Passes 𝓐 (fragment N S k) L
  unfolding judge verdict_from
  empty_passes e = rw (own_boxes_fragment N S (only k), filter_none (numbered N S k) (own_boxes N) e) refl
