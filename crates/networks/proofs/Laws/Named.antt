-- The first own box of which something holds, by rising id: the box that an answer names.
--     Named                         the box, and that nothing of the kind holds below it
--     named_here, named_later       it is the first of a list, or stands behind the first
--     lowest_some                   the box whose id `lowest` gives
--     named_box                     it is the network's box with that id
use mathlib.Core.Path.{◌≡◌, refl, subst}
use mathlib.Core.Bool.{Bool, true, false, cond}
use mathlib.Core.Option.{some, none-ne-some, some-injective}
use mathlib.Core.List.{List, [], ◌∷◌}
use Prim.Native.Nat.{ℕ, suc, ◌≤◌, ◌<◌}
use native.Mathlib.Omega.{arith}
use Rattle.lists.specs.All.{All}
use Rattle.lists.specs.Sorted.{Rises}
use Rattle.networks.specs.Network.{Own, own, Network, box_id, own_boxes, box}
use Rattle.networks.specs.Lowest.{lowest}
use Rattle.networks.proofs.Laws.Boxes.{own_there}

module _ {R D : Type 0} (Hit Miss : Own R D → Type 0) where
  pub record Named (i lo : ℕ) (bs : List (Own R D)) : Type 1 where
    pub named : Own R D
    pub there : (Q : Own R D → Type 0) → All Q bs → Q named
    pub id_is : named.id ≡ i
    pub hit : Hit named
    pub below : All (λ (d : Own R D). d.id < i → Miss d) bs
    pub above : lo ≤ i

  -- nothing behind a box stands below it
  behind : (i lo : ℕ) (bs : List (Own R D)) → i < lo → Rises (λ (d : Own R D). d.id) lo bs → All (λ (d : Own R D). d.id < i → Miss d) bs
  behind i lo [] l h = tt
  behind i lo (d ∷ bs) l h = (λ z. absurd (omega arith), behind i (suc d.id) bs (omega arith) h.1)

  module _ (i lo : ℕ) (b : Own R D) (bs : List (Own R D)) (h : Rises (λ (d : Own R D). d.id) lo (b ∷ bs)) where
    pub named_here : b.id ≡ i → Hit b → Named i lo (b ∷ bs)
    named_here e t = record {
      named = b;
      there = λ Q a. a.0;
      id_is = e;
      hit = t;
      below = (λ l. absurd (omega arith), behind i (suc b.id) bs (omega arith) h.1);
      above = omega arith;
    }

    pub named_later : Miss b → Named i (suc b.id) bs → Named i lo (b ∷ bs)
    named_later t f =
        let l : suc b.id ≤ i = f.above in
        record {
          named = f.named;
          there = λ Q a. f.there Q a.1;
          id_is = f.id_is;
          hit = f.hit;
          below = (λ y. t, f.below);
          above = omega arith;
        }

abbrev pub Meets : {R D : Type 0} → (Own R D → Bool) → ℕ → ℕ → List (Own R D) → Type 1
Meets {R} {D} test = Named (λ (b : Own R D). test b ≡ true) (λ (b : Own R D). test b ≡ false)

pub lowest_some : {R D : Type 0} (test : Own R D → Bool) (i lo : ℕ) (bs : List (Own R D)) → Rises (λ (b : Own R D). b.id) lo bs
    → lowest test bs ≡ some i → Meets test i lo bs
lowest_some test i lo [] h e = absurd (none-ne-some _ e)
lowest_some {R} {D} test i lo (b ∷ bs) h e = go (test b) refl e (lowest_some test i (suc b.id) bs h.1)
  where
    go : (t : Bool) → test b ≡ t → cond t (some b.id) (lowest test bs) ≡ some i
        → (lowest test bs ≡ some i → Meets test i (suc b.id) bs) → Meets test i lo (b ∷ bs)
    go true q z r = named_here _ _ i lo b bs h (some-injective _ _ z) q
    go false q z r = named_later _ _ i lo b bs h q (r z)

-- the box that is named is the network's box with that id
pub named_box : {R P D : Type 0} (N : Network R P D) {Hit Miss : Own R D → Type 0} → Rises box_id 0 N.boxes
    → (i lo : ℕ) (f : Named Hit Miss i lo (own_boxes N)) → box N i ≡ some (own f.named)
named_box {R} {P} {D} N rise i lo f = subst (λ (j : ℕ). box N j ≡ some (own f.named)) f.id_is
    (f.there (λ (b : Own R D). box N b.id ≡ some (own b)) (own_there N rise))
