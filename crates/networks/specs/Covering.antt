-- What document 000 says of the fragments of one cut together, below definition IV.3; here for as many fragments as there are. `Part k F`
-- says that F is fragment k: that the cutter gives it, or that a record which was cut out says it.
--     InSome, InOne     a fragment meets a test; exactly one does
--     Crosses           what one fragment assumes of a box, another promises
--     Covering          the fragments cover the network, and every cut edge is crossed so
use Rattle.std.specs.Prelude.{◌≡◌, Bool, true, false, ◌||◌, ℕ}
use Rattle.std.proofs.Math.Option.{some}
use Rattle.networks.specs.Network.{Network, has_box, owns}
use Rattle.networks.specs.Sheets.{Sheet, note}
use Rattle.networks.specs.Paper.{ass, guar, V_in, V_out, E}

module _ {R P D : Type 0} (Part : ℕ → Network R P D → Type 0) where
  abbrev pub InSome : (Network R P D → Bool) → Type 0
  InSome test = (k : ℕ) × (F : Network R P D) × Part k F × (test F ≡ true)

  -- there is one that does, and each that does is this one
  abbrev pub InOne : (Network R P D → Bool) → Type 0
  InOne test = (k : ℕ) × (F : Network R P D) × Part k F × (test F ≡ true)
      × ((m : ℕ) (G : Network R P D) → Part m G → test G ≡ true → (m ≡ k) × (G ≡ F))

-- F assumes of u what G promises of it, and this is the note of u.
pub record Crosses {R P D : Type 0} (S : Sheet R) (F G : Network R P D) (u : ℕ) : Type 0 where
  pub route : R
  pub noted : note S u ≡ some route
  pub assumed : ass F u ≡ some route
  pub promised : guar G u ≡ some route

pub record Covering {R P D : Type 0} (N : Network R P D) (S : Sheet R) (Part : ℕ → Network R P D → Type 0) : Type 0 where
  -- covering: the boxes, the outputs and the edges of the network are the fragments', each own box and each edge of exactly one
  pub own_boxes_lem : (u : ℕ) → owns N u ≡ true → InOne Part (λ (F : Network R P D). owns F u)
  pub inputs : (u : ℕ) → V_in N u ≡ true → InSome Part (λ (F : Network R P D). V_in F u)
  pub outputs : (u : ℕ) → V_out N u ≡ true → InOne Part (λ (F : Network R P D). V_out F u)
  pub edges : (u v : ℕ) → E N u v ≡ true → InOne Part (λ (F : Network R P D). E F u v)
  pub no_box_more : (k : ℕ) (F : Network R P D) → Part k F → (u : ℕ) → has_box F u ≡ true → has_box N u ≡ true
  pub no_edge_more : (k : ℕ) (F : Network R P D) → Part k F → (u v : ℕ) → E F u v ≡ true → E N u v ≡ true
  -- input-output nodes: an input that is none of the network's is an own box of another fragment, which promises what is assumed
  pub inputs_promised : (k : ℕ) (F : Network R P D) → Part k F → (u : ℕ) → V_in F u ≡ true → V_in N u ≡ false
      → (m : ℕ) × (G : Network R P D) × Part m G × (owns G u ≡ true) × (m ≡ k → ⊥) × Crosses S F G u
  -- so is the from end of every edge uv whose ends are in two fragments
  pub edges_crossed : (k m : ℕ) (F G : Network R P D) → Part k F → Part m G → (k ≡ m → ⊥)
      → (u v : ℕ) → E N u v ≡ true → owns G u ≡ true → owns F v ≡ true → Crosses S F G u
  -- shared nodes: a box that two fragments have is an input of one of them
  pub shared : (k m : ℕ) (F G : Network R P D) → Part k F → Part m G → (k ≡ m → ⊥)
      → (u : ℕ) → has_box F u ≡ true → has_box G u ≡ true → V_in F u || V_in G u ≡ true
