-- Nodes by their row, as the code reads them.
--     node_reads     a node's id and kind
--     owns           the search for an own node
--     node_named     a refusal that names a node
use Prim.Native.Nat.{ℕ, ◌+◌, ◌≤◌, ◌<◌}
use native.Mathlib.Omega.{arith}
use mathlib.Core.Path.{◌≡◌, sym, ap, ◌∙◌}
use mathlib.Core.Bool.{Bool, true, false, not}
use mathlib.Core.List.{List}
use lib.Dec.{eqb}
use lib.ListN.{length, get_or}
use Rattle.lists.proofs.First.{Passed, passed_none, passed_more, every_yes, every_no}
use Rattle.numbers.specs.BigEndian.{u16_at}
use Rattle.layout.specs.Layout.{Room, node_count, node_offset}
use Rattle.nodes.specs.Node.{node_id, is_own, ownless}
use Rattle.layout.proofs.Places.{node_fields_room}
use Rattle.layout.specs.declared.Class.{Class}
use Rattle.layout.specs.declared.Form.{Form}
use Rattle.layout.specs.declared.Refusal.{Refusal}

module _ (f : Form) (b : List ℕ) where
  module _ (i o : ℕ) (e : o ≡ node_offset f b i) where
    pub row_id : (v : ℕ) → v ≡ u16_at b o → v ≡ node_id f b i
    unfolding node_id
    row_id v h = rw (← e) h

    pub row_own : (t : Bool) → t ≡ eqb (get_or b (o + 2) 0) 0 → t ≡ is_own f b i
    unfolding is_own
    row_own t h = rw (← e) h

    module _ (r : Room f b) (l : i < node_count b) where
      pub row_id_room : o + 2 ≤ length b
      row_id_room = omega (arith, node_fields_room f b r i l)

      pub row_kind_room : o + 2 < length b
      row_kind_room = omega (arith, node_fields_room f b r i l)

  -- what the search for an own node knows: the nodes before the i-th are none
  unfoldable pub Ownless : ℕ → Type 0
  Ownless i = Passed (λ k. not (is_own f b k)) i

  pub ownless_start : Ownless 0
  unfolding Ownless
  ownless_start = passed_none _

  module _ (i : ℕ) (h : Ownless i) (t : Bool) (e : t ≡ is_own f b i) where
    pub ownless_next : t ≡ false → Ownless (i + 1)
    unfolding Ownless
    ownless_next y = passed_more _ i h (ap not (sym e ∙ y))

    pub ownless_not : (n : ℕ) → n ≡ node_count b → i < n → t ≡ true → false ≡ ownless f b
    unfolding Ownless Passed ownless
    ownless_not n c l y = rw (← c) (sym (every_no _ n i l h (ap not (sym e ∙ y))))

  pub ownless_end : (n i : ℕ) → n ≡ node_count b → n ≤ i → Ownless i → true ≡ ownless f b
  unfolding Ownless Passed ownless
  ownless_end n i c l h = rw (← c) (sym (every_yes _ n (λ k p. h k (omega arith))))

pub ruleset node_reads = (row_id, row_own, row_id_room, row_kind_room)

pub ruleset owns = (ownless_start, ownless_next, ownless_not, ownless_end)

-- a refusal that names a node
pub node_named : (f : Form) (b : List ℕ) (class : Class) (i id place : ℕ) → id ≡ node_id f b i → place ≡ id
    → ◌≡◌ {A = Refusal} (record { class = class; place = place }) (record { class = class; place = node_id f b i })
node_named f b class i id place e h = λ t. record { class = class; place = (h ∙ e) t }
