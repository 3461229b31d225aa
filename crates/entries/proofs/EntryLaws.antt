-- The entries of a sheet or a list, as the code reads them.
--     fragments, entry_forms     when an entry is well formed
--     entering, entry_rooms      the ways on of the loop over the entries, and the room that it asks for
use Prim.Native.Nat.{ℕ, ◌+◌, ◌^◌, ◌≤◌, ◌<◌}
use native.Mathlib.Omega.{arith}
use mathlib.Core.Path.{◌≡◌, refl, sym, ap, ◌∙◌}
use mathlib.Core.Bool.{Bool, true, false, not}
use mathlib.Core.List.{List}
use lib.ListN.{length, get_or}
use mir.Syntax.{w64}
use mir.Val.{Fits}
use borrow.Author.Tests.{ne_eqb, le-leb, lt-leb, not-true, not-false}
use Rattle.lists.specs.First.{first_bad}
use Rattle.lists.proofs.Walk.{Climb, climb_start, climb_next, climb_low, climb_ill, climb_end}
use Rattle.numbers.specs.BigEndian.{u16_at}
use Rattle.routes.specs.Form.{route_formed}
use Rattle.layout.specs.declared.Form.{Form}
use Rattle.entries.specs.Entries.{fragment_formed, entry_id, entry_ok, entry_formed}
use Rattle.layout.proofs.Places.{entry_first, entry_after, entry_within}
use Rattle.layout.specs.Layout.{entry_offset}
use Rattle.layout.specs.Form.{Usable}

module _ (f : Form) (lead : ℕ) (b : List ℕ) (o : ℕ) where
  pub fragment_within : lead ≡ 3 → get_or b (o + 2) 0 < 64 → true ≡ fragment_formed f lead b o
  unfolding fragment_formed
  fragment_within e h = rw (e, le-leb (get_or b (o + 2) 0) 63 (omega arith))

  pub fragment_over : lead ≡ 3 → 64 ≤ get_or b (o + 2) 0 → false ≡ fragment_formed f lead b o
  unfolding fragment_formed
  fragment_over e h = rw (e, lt-leb (get_or b (o + 2) 0) 63 (omega arith))

  pub fragment_of_list : (lead ≡ 3 → ⊥) → true ≡ fragment_formed f lead b o
  unfolding fragment_formed
  fragment_of_list e = rw (ne_eqb lead 3 e)

  module _ (t : Bool) (p : t ≡ fragment_formed f lead b o) where
    pub entry_fragment : not t ≡ true → false ≡ entry_formed f lead b o
    unfolding entry_formed
    entry_fragment h = rw (← p, not-true t h)

    pub entry_route : (u : Bool) → not t ≡ false → u ≡ route_formed f.route b (o + lead) → u ≡ entry_formed f lead b o
    unfolding entry_formed
    entry_route u h q = rw (← p, not-false t h) q

pub ruleset fragments = (fragment_within, fragment_over, fragment_of_list)

pub ruleset entry_forms = (entry_fragment, entry_route)

-- what the loop over the entries knows
abbrev pub Entering : Form → ℕ → List ℕ → ℕ → ℕ → ℕ → ℕ → Type 0
Entering f lead b n i o low = Climb (entry_id f lead b) (entry_offset f lead) (entry_ok f lead b) n i o low

module _ (f : Form) (lead : ℕ) (b : List ℕ) (n : ℕ) where
  pub entry_start : Entering f lead b n 0 7 0
  entry_start = climb_start _ _ _ n 7 (sym (entry_first f lead))

  module _ (i o low : ℕ) (c : Entering f lead b n i o low) where
    pub entry_end : n ≤ i → n ≡ first_bad (entry_ok f lead b) n
    entry_end l = climb_end _ _ _ n i o low c l

    module _ (l : i < n) where
      pub entry_low : (id : ℕ) → id ≡ u16_at b o → id < low → i ≡ first_bad (entry_ok f lead b) n
      unfolding entry_ok entry_id
      entry_low id e m = climb_low _ _ _ (entry_formed f lead b) (λ k. refl) n i o low c l id (e ∙ ap (u16_at b) c.walk.here) m

      module _ (t : Bool) (h : t ≡ entry_formed f lead b o) where
        pub entry_ill : not t ≡ true → i ≡ first_bad (entry_ok f lead b) n
        unfolding entry_ok
        entry_ill y = climb_ill _ _ _ (entry_formed f lead b) (λ k. refl) n i o low c l t h y

        pub entry_next : (id : ℕ) → id ≡ u16_at b o → low ≤ id → not t ≡ false → Entering f lead b n (i + 1) (o + (lead + f.route)) (id + 1)
        unfolding entry_ok entry_id
        entry_next id e m y =
            let here = c.walk.here in
            climb_next _ _ _ (entry_formed f lead b) (λ k. refl) n i o low c l t h id (o + (lead + f.route))
            (e ∙ ap (u16_at b) here) m y (omega (arith, entry_after f lead i))

      -- the entry at hand lies within the n entries
      module _ (r : entry_offset f lead n ≤ length b) where
        pub entry_here : o + (lead + f.route) ≤ length b
        entry_here = let here = c.walk.here in omega (arith, entry_within f lead i n l)

        pub entry_id_room : Usable f → 2 ≤ lead → o + 2 ≤ length b
        entry_id_room u h = let w = u.wide in omega (arith, entry_here)

        pub entry_fits : length b < 2 ^ 64 → Fits w64 (o + (lead + f.route))
        entry_fits g = omega (arith, entry_here)

pub ruleset entering = (entry_start, entry_end, entry_low, entry_ill, entry_next)

pub ruleset entry_rooms = (entry_here, entry_id_room, entry_fits)
