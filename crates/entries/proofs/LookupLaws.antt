-- The search by halving, as the code goes: what a place at the middle tells, and the ids of entries.
use Prim.Native.Nat.{ℕ, ◌+◌, ◌≤◌, ◌<◌}
use native.Mathlib.Omega.{arith}
use mathlib.Core.Path.{◌≡◌, refl, sym}
use mathlib.Core.List.{List}
use lib.ListN.{length}
use Rattle.lists.specs.Rising.{Rising, place}
use Rattle.lists.proofs.Rising.{Between, between_none, mid, mid_up, mid_down, mid_hit}
use Rattle.lists.specs.Stride.{at}
use Rattle.lists.proofs.Stride.{at_fits}
use Rattle.numbers.specs.BigEndian.{u16_at}
use Rattle.layout.specs.declared.Form.{Form}
use Rattle.entries.specs.Entries.{id_at, entry_id, entry_of}
use Rattle.layout.specs.Layout.{entry_offset, EntriesRoom, entry_count}
use Rattle.layout.specs.Form.{entry_width}
use Rattle.entries.proofs.Fine.{entry_is}

module _ (b : List ℕ) (base size n id lo hi : ℕ) where
  pub find_none : Between (id_at b base size) n id lo hi → hi ≤ lo → n ≡ place (id_at b base size) id n
  find_none h l = sym (between_none h l)

  module _ (h : Between (id_at b base size) n id lo hi) (l : lo < hi) where
    pub find_place : n ≤ 65535 → mid lo hi ≤ 65535
    find_place m = let g = h.high in omega arith

    module _ (o : ℕ) (e : o ≡ at base size (mid lo hi)) where
      pub find_room : 2 ≤ size → at base size n ≤ length b → o + 2 ≤ length b
      find_room m r = let g = h.high in omega (arith, at_fits base size (mid lo hi) n (omega arith))

      module _ (found : ℕ) (p : found ≡ u16_at b o) (rise : Rising (id_at b base size) n) where
        found_is : found ≡ id_at b base size (mid lo hi)
        unfolding id_at
        found_is = rw (← e) p

        pub find_hit : found ≡ id → mid lo hi ≡ place (id_at b base size) id n
        find_hit q = mid_hit (id_at b base size) n id lo hi found rise h l found_is q

        pub find_up : found < id → Between (id_at b base size) n id (mid lo hi + 1) hi
        find_up q = mid_up (id_at b base size) n id lo hi found rise h l found_is q

        pub find_down : (found ≡ id → ⊥) → id ≤ found → Between (id_at b base size) n id lo (mid lo hi)
        find_down d q = mid_down (id_at b base size) n id lo hi found rise h l found_is d q

pub entry_ids : (f : Form) (lead : ℕ) (b : List ℕ) → id_at b 7 (entry_width f lead) ≡ entry_id f lead b
unfolding id_at entry_id entry_offset
entry_ids f lead b = refl

module _ (f : Form) (lead : ℕ) (b : List ℕ) (n : ℕ) (c : n ≡ u16_at b 5) where
  pub entries_room_lem : EntriesRoom f lead b → at 7 (lead + f.route) n ≤ length b
  unfolding entry_offset entry_width
  entries_room_lem r = rw c r.whole

  pub entries_rise : Rising (entry_id f lead b) (entry_count b) → Rising (id_at b 7 (lead + f.route)) n
  unfolding entry_width
  entries_rise r = rw (c, entry_ids f lead b) r

  pub entries_found : (id r : ℕ) → r ≡ place (id_at b 7 (lead + f.route)) id n → r ≡ entry_of f lead b id
  unfolding entry_width entry_of
  entries_found id r h = rw (c, entry_ids f lead b) at h

  -- an entry that is looked for in a row where it may be
  module _ (near o : ℕ) (l : near < n) (e : o ≡ entry_offset f lead near) where
    pub near_room : EntriesRoom f lead b → o + 2 ≤ length b
    unfolding entry_offset entry_width
    near_room r =
        let whole : at 7 (lead + f.route) n ≤ length b = entries_room_lem r in
        let k = r.led in
        omega (arith, at_fits 7 (lead + f.route) near n l)

    pub near_found : (v id : ℕ) → v ≡ u16_at b o → v ≡ id → Rising (entry_id f lead b) (entry_count b) → near ≡ entry_of f lead b id
    unfolding entry_id
    near_found v id p q r = sym (entry_is f lead b id near r (rw (← c) l) (rw (← e, ← p) q))
