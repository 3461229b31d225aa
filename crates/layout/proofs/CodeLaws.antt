-- What the code works out: the form, offsets whose products stay small, and the number of a class.
use Prim.Native.Nat.{ℕ, ◌+◌, ◌*◌}
use native.Mathlib.Omega.{arith}
use mathlib.Core.Path.{◌≡◌, refl}
use mathlib.Core.List.{List}
use lib.ListN.{get_or}
use Rattle.lists.specs.Stride.{at}
use Rattle.numbers.specs.BigEndian.{u16_at}
use borrow.Author.Tests.{eq-eqb, ne_eqb}
use Rattle.layout.specs.declared.Class.{Class}
use Rattle.std.proofs.Common.{Some, None}
use Rattle.layout.specs.declared.Form.{Form}
use Rattle.layout.specs.Layout.{entry_offset, policy_offset, node_offset, edge_offset, node_part, total}
use Rattle.layout.specs.Form.{node_width, entry_width, form_of, formed, versioned}
use Rattle.layout.specs.Refusals.{number_of}

pub entry_offset_lem : (f : Form) (lead i r : ℕ) → r ≡ at 7 (lead + f.route) i → r ≡ entry_offset f lead i
unfolding entry_offset entry_width
entry_offset_lem f lead i r e = e

pub policy_offset_lem : (i : ℕ) → 10 + 13 * i ≡ policy_offset i
unfolding policy_offset at
policy_offset_lem i = omega arith

pub node_part_lem : (b : List ℕ) (p r : ℕ) → p ≡ get_or b 9 0 → r ≡ policy_offset p → r ≡ node_part b
node_part_lem b p r e h = rw (← e) h

pub node_width_lem : (f : Form) → 9 + f.route + f.route ≡ node_width f
unfolding node_width
node_width_lem f = refl

pub node_offset_lem : (f : Form) (b : List ℕ) (part size i r : ℕ) → part ≡ node_part b → size ≡ node_width f → r ≡ at part size i → r ≡ node_offset f b i
unfolding node_offset
node_offset_lem f b part size i r e w h = rw (← e, ← w) h

pub edge_offset_lem : (f : Form) (b : List ℕ) (n part i r : ℕ) → n ≡ u16_at b 5 → part ≡ node_offset f b n → r ≡ at part 5 i → r ≡ edge_offset f b i
unfolding edge_offset
edge_offset_lem f b n part i r c e h = rw (← c, ← e) h

pub total_of : (f : Form) (b : List ℕ) (n r : ℕ) → n ≡ u16_at b 7 → r ≡ edge_offset f b n → r ≡ total f b
total_of f b n r c h = rw (← c) h

-- the form by the version byte
module _ (b : List ℕ) where
  pub form_first : get_or b 4 0 ≡ 1 → Some (record { version = 1; route = 9; most = 512 }) ≡ formed b
  unfolding formed form_of versioned
  form_first e = rw (eq-eqb (get_or b 4 0) 1 e)

  pub form_unknown : (get_or b 4 0 ≡ 1 → ⊥) → None ≡ formed b
  unfolding formed form_of versioned
  form_unknown e = rw (ne_eqb (get_or b 4 0) 1 e)

pub ruleset forming = (form_first, form_unknown)

-- a class that the code has told
pub number_is : (c s : Class) (n : ℕ) → c ≡ s → n ≡ number_of s → n ≡ number_of c
number_is c s n e h = rw e h
