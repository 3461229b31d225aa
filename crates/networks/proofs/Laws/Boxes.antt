-- The boxes of a network by kind and by id.
--     found, there             for either kind: what the box with an id knows, and each box is the one with its id
--     own_found, input_found, own_there, input_there     the same for own boxes and for inputs
--     own_rise, input_rise     own boxes, and inputs, stand by rising id; find_own, the own box with an id
--     owned, own_box, own_fact, own_any     from `owns` to the own box, to a box, to what every own box has, and to a test that some own box meets
use mathlib.Core.Path.{◌≡◌, refl, sym, ap, ◌∙◌, subst}
use mathlib.Core.Bool.{Bool, true, false≢true}
use mathlib.Core.Option.{Option, none, some, bind, none-ne-some, some-injective}
use mathlib.Core.List.{filter_map}
use Prim.Native.Nat.{ℕ}
use Rattle.lists.specs.All.{All, any}
use Rattle.lists.proofs.All.{all_map, any_here}
use Rattle.lists.proofs.Filter.{all_filter_map, filter_map_all}
use Rattle.lists.specs.Sorted.{Rises, find}
use Rattle.lists.proofs.Sorted.{rises_filter_map, find_filter_map, find_key, find_all, find_self}
use Rattle.networks.specs.Network.{Own, Input, Box, own, input, Network, box_id, as_own, as_input, is_box, is_own_box, own_boxes, inputs, box, has_box, owns}

-- one kind of box, and the box that each of the kind is
module _ {A R P D : Type 0} (N : Network R P D) (kind : Box R D → Option A) (make : A → Box R D) (same : (x : A) → kind (make x) ≡ some x)
    (only : (v : Box R D) (x : A) → kind v ≡ some x → v ≡ make x) where
  found : (Q : A → Type 0) (i : ℕ) (x : A) → All Q (filter_map kind N.boxes) → box N i ≡ some (make x) → Q x
  found Q i x h e = find_all box_id (λ (v : Box R D). (y : A) → kind v ≡ some y → Q y) i N.boxes (make x)
      (filter_map_all Q kind N.boxes h) e x (same x)

  there : Rises box_id 0 N.boxes → All (λ (x : A). box N (box_id (make x)) ≡ some (make x)) (filter_map kind N.boxes)
  there rise = all_filter_map (λ (x : A). box N (box_id (make x)) ≡ some (make x)) kind N.boxes
      (all_map N.boxes (λ v e x q. subst (λ (u : Box R D). box N (box_id u) ≡ some u) (only v x q) e) (find_self box_id 0 N.boxes rise))

own_only : {R D : Type 0} (v : Box R D) (b : Own R D) → as_own v ≡ some b → v ≡ own b
own_only (own c) b e = ap own (some-injective _ _ e)
own_only (input a) b e = absurd (none-ne-some _ e)

input_only : {R D : Type 0} (v : Box R D) (a : Input R) → as_input v ≡ some a → v ≡ input a
input_only (own b) a e = absurd (none-ne-some _ e)
input_only (input c) a e = ap input (some-injective _ _ e)

module _ {R P D : Type 0} (N : Network R P D) where
  pub own_found : (Q : Own R D → Type 0) (i : ℕ) (b : Own R D) → All Q (own_boxes N) → box N i ≡ some (own b) → Q b
  own_found = found N as_own own (λ b. refl) own_only

  pub input_found : (Q : Input R → Type 0) (i : ℕ) (a : Input R) → All Q (inputs N) → box N i ≡ some (input a) → Q a
  input_found = found N as_input input (λ a. refl) input_only

  pub own_there : Rises box_id 0 N.boxes → All (λ (b : Own R D). box N b.id ≡ some (own b)) (own_boxes N)
  own_there = there N as_own own (λ b. refl) own_only

  pub input_there : Rises box_id 0 N.boxes → All (λ (a : Input R). box N a.id ≡ some (input a)) (inputs N)
  input_there = there N as_input input (λ a. refl) input_only

  pub own_rise : Rises box_id 0 N.boxes → Rises (λ (b : Own R D). b.id) 0 (own_boxes N)
  own_rise = rises_filter_map box_id (λ (b : Own R D). b.id) as_own (λ v b e. sym (ap box_id (own_only v b e))) 0 N.boxes

  pub find_own : Rises box_id 0 N.boxes → (i : ℕ) → find (λ (b : Own R D). b.id) i (own_boxes N) ≡ bind (box N i) as_own
  find_own rise i = find_filter_map box_id (λ (b : Own R D). b.id) as_own (λ v b e. sym (ap box_id (own_only v b e))) i 0 N.boxes rise

  pub input_rise : Rises box_id 0 N.boxes → Rises (λ (a : Input R). a.id) 0 (inputs N)
  input_rise = rises_filter_map box_id (λ (a : Input R). a.id) as_input (λ v a e. sym (ap box_id (input_only v a e))) 0 N.boxes

  pub owned : (i : ℕ) → owns N i ≡ true → (b : Own R D) × (box N i ≡ some (own b)) × (b.id ≡ i)
  owned i t = go (box N i) refl t
    where
      go : (o : Option (Box R D)) → box N i ≡ o → is_own_box o ≡ true → (b : Own R D) × (box N i ≡ some (own b)) × (b.id ≡ i)
      go none q e = absurd (false≢true e)
      go (some (input a)) q e = absurd (false≢true e)
      go (some (own b)) q e = (b, q, find_key box_id i N.boxes (own b) q)

  pub own_box : (i : ℕ) → owns N i ≡ true → has_box N i ≡ true
  own_box i t = ap is_box (owned i t).1

  -- what is known of every own box is known of the one with this id
  pub own_fact : (Q : ℕ → Type 0) (i : ℕ) → All (λ (b : Own R D). Q b.id) (own_boxes N) → owns N i ≡ true → Q i
  own_fact Q i h t = let f = owned i t in subst Q f.2 (own_found (λ (b : Own R D). Q b.id) i f.0 h f.1)

  -- an own box that meets a test is one of the own boxes that do
  pub own_any : (test : ℕ → Bool) (i : ℕ) → owns N i ≡ true → test i ≡ true → any (λ (b : Own R D). test b.id) (own_boxes N) ≡ true
  own_any test i t e =
      let f = owned i t in
      own_found (λ (b : Own R D). (p : Own R D → Bool) → p b ≡ true → any p (own_boxes N) ≡ true) i f.0 (any_here (own_boxes N)) f.1
      (λ (b : Own R D). test b.id) (ap test f.2 ∙ e)
