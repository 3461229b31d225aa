-- The table of where routes stand, as the loop over the nodes fills it.
--     stands, filling      one row, and the loop
--     stands_entered       from the table of entries to the entries
--     stands_hold          what the table holds
use mathlib.Core.Path.{◌≡◌, refl, ap, ap₂, ◌∙◌}
use mathlib.Core.Bool.{Bool, true, false, cond}
use mathlib.Core.List.{List}
use Prim.Native.Nat.{ℕ, zero, suc, ◌+◌, ◌*◌, ◌≤◌, ◌<◌, zero-le}
use native.Mathlib.Omega.{arith}
use lib.ListN.{length, get_or, set, replicate, length-replicate}
use mir.Syntax.{w64}
use mir.Val.{Fits}
use Rattle.lists.specs.Gather.{table_after}
use Rattle.lists.proofs.Gather.{after_none, after_next, after_stored}
use Rattle.lists.specs.Stride.{at}
use Rattle.numbers.specs.BigEndian.{u16_at}
use Rattle.numbers.proofs.StrideLaws.{stride_low}
use Rattle.layout.specs.Layout.{entry_offset, Room, node_count, edge_count, policy_count, policy_offset, node_offset, edge_offset}
use Rattle.layout.specs.Form.{Usable, entry_width, node_width, list_lead}
use Rattle.nodes.specs.Node.{is_own}
use Rattle.std.proofs.Common.{Ok}
use Rattle.layout.specs.declared.Form.{Form}
use Rattle.records.specs.Checked.{CheckedNetwork}
use Rattle.records.specs.Entered.{entry_in, EntryRows}
use Rattle.preparing.specs.Prepared.{stand_at, stand_of, placed_in, with_stand, with_stands, stands_after}
use Rattle.preparing.proofs.PartLaws.{in_entry, in_node}

-- the sums stay small
module _ (f : Form) (network : List ℕ) (h : CheckedNetwork f network) where
  entry_small : (k : ℕ) → k ≤ 65535 → entry_offset f list_lead k ≤ 5000000
  unfolding entry_offset entry_width at
  entry_small k l = let u = h.room.usable.narrow in let z = stride_low 7 (2 + f.route) k (omega arith) l (omega arith) in omega arith

  network_small : length network ≤ 20000000
  unfolding edge_offset node_offset node_width policy_offset at
  network_small =
      let u = h.room.usable.narrow in
      let n = h.room.few in
      let m = h.room.usable.few in
      let e = h.sound.few_edges in
      let p = h.sound.few_policies in
      let w = h.sound.whole in
      let b = stride_low (10 + policy_count network * 13) (9 + f.route + f.route) (node_count network) (omega arith) (omega arith) (omega arith) in
      let nodes = 10 + policy_count network * 13 + node_count network * (9 + f.route + f.route) in
      let c = stride_low nodes 5 (edge_count network) (omega arith) (omega arith) (omega arith) in
      omega arith

  pub stand_usable : Usable f
  stand_usable = h.room.usable

  pub stand_room : Room f network
  stand_room = h.room

  pub stand_long : 10 ≤ length network
  stand_long = h.room.long

  pub stand_few : (i : ℕ) → i < node_count network → i ≤ 65535
  stand_few i l = let n = h.room.few in let u = h.room.usable.few in omega arith

  module _ (k o : ℕ) (l : k ≤ 65535) (e : o ≡ entry_offset f list_lead k) where
    pub stand_lead_fits : Fits w64 (o + 2)
    stand_lead_fits = omega (arith, entry_small k l)

    pub stand_fits : Fits w64 (length network + (o + 2))
    stand_fits = omega (arith, entry_small k l, network_small)

  module _ (i k : ℕ) (t : Bool) (w : t ≡ is_own f network i) where
    pub stand_own : (o : ℕ) → t ≡ true → o ≡ entry_offset f list_lead k → length network + (o + 2) ≡ stand_at f network i k
    unfolding stand_at
    stand_own o y e = rw (← w, y, e)

    pub stand_input : (o : ℕ) → t ≡ false → o ≡ node_offset f network i → o + 3 ≡ stand_at f network i k
    unfolding stand_at
    stand_input o y e = rw (← w, y, e)

pub ruleset stands = (stand_usable, stand_room, stand_long, stand_few, stand_lead_fits, stand_fits, stand_own, stand_input)

-- what the loop knows before row i
pub record Filling (f : Form) (network places stands₀ stands : List ℕ) (n i : ℕ) : Type 0 where
  pub within : i ≤ n
  pub nodes : n ≡ node_count network
  pub filled : stands ≡ table_after (with_stand f network (placed_in places)) i stands₀

module _ (f : Form) (network places stands₀ : List ℕ) where
  pub filling_start : (n m : ℕ) → n ≡ m → m ≡ u16_at network 5 → Filling f network places stands₀ stands₀ n 0
  filling_start n m p q = record { within = zero-le; nodes = p ∙ q; filled = after_none (with_stand f network (placed_in places)) stands₀ }

  pub filling_counts : CheckedNetwork f network → 5 + 2 ≤ length network
  filling_counts h = let l = h.room.long in omega arith

  module _ (stands : List ℕ) (n i : ℕ) (k : Filling f network places stands₀ stands n i) where
    pub filling_end : n ≤ i → stands ≡ with_stands f network (placed_in places) stands₀
    unfolding with_stands
    filling_end l =
        let e : i ≡ node_count network = let w = k.within in let m = k.nodes in omega arith in
        rw (← e) k.filled

    module _ (l : i < n) where
      pub filling_row : i < node_count network
      filling_row = let m = k.nodes in omega arith

      pub filling_index : CheckedNetwork f network → i < 1024
      filling_index h = let u = h.room.usable.few in let m = h.room.few in omega (arith, filling_row)

      pub filling_next : (x y : ℕ) → y ≡ get_or places i 0 → x ≡ stand_at f network i y → Filling f network places stands₀ (set stands i x) n (i + 1)
      unfolding with_stand placed_in
      filling_next x y q e = record {
        within = omega arith;
        nodes = k.nodes;
        filled = after_next (with_stand f network (placed_in places)) stands₀ i stands (set stands i x) k.filled
            (ap (set stands i) (e ∙ ap (stand_at f network i) q));
      }

pub ruleset filling = (filling_start, filling_counts, filling_end, filling_row, filling_index, filling_next)

-- two ways to the entries that say the same of where the routes stand fill the table alike
steps_same : (f : Form) (network : List ℕ) (entry other : ℕ → ℕ) (table : List ℕ) (n : ℕ)
    → ((i : ℕ) → i < n → stand_at f network i (entry i) ≡ stand_at f network i (other i))
    → table_after (with_stand f network entry) n table ≡ table_after (with_stand f network other) n table
unfolding table_after with_stand
steps_same f network entry other table zero h = refl
steps_same f network entry other table (suc n) h =
    ap₂ (λ (t : List ℕ) (x : ℕ). set t n x) (steps_same f network entry other table n (λ i l. h i (omega arith))) (h n (omega arith))

module _ (f : Form) (network list : List ℕ) where
  -- a table that has the entries' rows
  stood : (places : List ℕ) → EntryRows f list_lead network list places → (i : ℕ) → i < node_count network
      → stand_at f network i (placed_in places i) ≡ stand_at f network i (entry_in f list_lead network list i)
  unfolding stand_at placed_in
  stood places p i l = go (is_own f network i) refl
    where
      go : (t : Bool) → is_own f network i ≡ t
          → cond t (length network + (entry_offset f list_lead (get_or places i 0) + list_lead)) (in_node f network list i)
          ≡ cond t (length network + in_entry f network list i) (in_node f network list i)
      go true q = ap (λ (k : ℕ). length network + (entry_offset f list_lead k + list_lead)) (p.row i l q).is
      go false q = refl

  pub stands_entered : (places table : List ℕ) → EntryRows f list_lead network list places
      → with_stands f network (placed_in places) table ≡ stands_after network list (Ok f) table
  unfolding with_stands stands_after
  stands_entered places table p = steps_same f network (placed_in places) (entry_in f list_lead network list) table (node_count network) (stood places p)

  -- what a table of zeros holds then
  pub stands_hold : (stands : List ℕ) → CheckedNetwork f network → stands ≡ stands_after network list (Ok f) (replicate 1024 0)
      → (i : ℕ) → i < node_count network → get_or stands i 0 ≡ stand_of f network list i
  unfolding stands_after with_stands with_stand stand_of
  stands_hold stands h e i l =
      let few = h.room.few in
      let most = h.room.usable.few in
      rw e (after_stored (stand_of f network list) 0 (replicate 1024 0) (node_count network) (omega (arith, length-replicate {A = ℕ} 1024 0)) i l)
