-- A run of bytes for each place, as a caller's loop lays them, and one run, by what it is.
--     Laying, laying    a loop that lends the rest to the writer of one place
--     runs              a place of which a row is kept, or nothing
use Prim.Native.Nat.{ℕ, ◌+◌, ◌-◌, ◌^◌, ◌≤◌, ◌<◌}
use native.Mathlib.Omega.{arith}
use mathlib.Core.List.{List, [], ◌++◌, append-nil}
use mathlib.Core.Path.{◌≡◌, refl, sym, ap, ◌∙◌}
use lib.ListN.{length, take, drop, length-append}
use mir.Syntax.{w64}
use mir.Val.{Fits}
use Rattle.lists.specs.Gather.{joined}
use Rattle.lists.proofs.Gather.{joined_next, joined_within}
use Rattle.lists.specs.Laid.{over}
use Rattle.lists.proofs.Laid.{over_none, Laid, lend_fits, laid_lend, laid_within, laid_done}
use Rattle.routes.specs.declared.Demand.{Demand}
use Rattle.routes.specs.declared.Route.{Route}
use Rattle.networks.specs.Network.{Box, Wire}
use Rattle.layout.specs.Form.{Usable, node_width}
use Rattle.layout.specs.declared.Form.{Form}
use Rattle.reading.specs.Parts.{box_bytes, wire_bytes}
use Rattle.reading.proofs.RowCodecs.{wire}
use Rattle.writing.proofs.RowLaws.{box_long}

-- The runs of the places below i are laid over the start of a buffer, and `o` is behind them.
pub record Laying (run : ℕ → List ℕ) (places : ℕ) (out₀ out : List ℕ) (i o : ℕ) : Type 0 where
  pub within : i ≤ places
  pub is : out ≡ over (joined run i) out₀
  pub there : o ≡ length (joined run i)
  pub long : length out ≡ length out₀

pub lay_start : (run : ℕ → List ℕ) (places : ℕ) (out₀ : List ℕ) → Laying run places out₀ out₀ 0 0
unfolding joined
lay_start run places out₀ = record { within = omega arith; is = sym (over_none out₀); there = refl; long = refl }

-- n is the number of places as the loop has it
module _ (run : ℕ → List ℕ) (places n : ℕ) (out₀ out : List ℕ) (i o : ℕ) (c : Laying run places out₀ out i o)
    (room : length (joined run places) ≤ length out₀) (q : n ≡ places) where
  module _ (l : n ≤ i) where
    all : i ≡ places
    all = let w = c.within in omega arith

    pub lay_size : o ≡ length (joined run places)
    lay_size = rw (← all) c.there

    pub lay_done : out ≡ over (joined run places) out₀
    lay_done = rw (← all) c.is

  module _ (l : i < n) where
    -- the next run is what is left to lay, for a while
    next : Laid out₀ out o (run i ++ []) (joined run (i + 1))
    next =
        let e = c.there in
        let f = joined_next run i in
        record {
          written = joined run i;
          is = c.is;
          there = c.there;
          left = rw append-nil (sym f);
          long = c.long;
          count = omega (arith, ap length f, length-append (joined run i) (run i), ap length (append-nil (run i)));
        }

    next_room : length (joined run (i + 1)) ≤ length out₀
    next_room = omega (arith, joined_within run (i + 1) places (omega arith))

    pub lay_at : o ≤ length out
    lay_at = laid_within out₀ out _ _ o next_room next

    pub lay_fits : length (run i) ≤ length (take (length out - o) (drop o out))
    lay_fits = lend_fits out₀ out o (run i) [] (joined run (i + 1)) next_room next

    module _ (r : ℕ) (e : r ≡ length (run i)) where
      pub lay_sum : length out₀ < 2 ^ 64 → Fits w64 (o + r)
      lay_sum g = let h = next.count in omega (arith, next_room, ap length (append-nil (run i)))

      pub lay_next : (back : List ℕ) → back ≡ over (run i) (take (length out - o) (drop o out))
          → Laying run places out₀ (take o out ++ (back ++ drop (length out - o) (drop o out))) (i + 1) (o + r)
      lay_next back h =
          let laid = laid_lend out₀ out o (run i) [] (joined run (i + 1)) next_room next back r e h in
          let done = laid_done _ _ _ [] _ laid refl in
          record { within = omega arith; is = done.1; there = done.0; long = laid.long }

pub ruleset laying = (lay_start, lay_size, lay_done, lay_at, lay_sum, lay_next)

module _ (run row : List ℕ) (e : run ≡ row) where
  pub run_size : (r : ℕ) → r ≡ length row → r ≡ length run
  run_size r h = h ∙ sym (ap length e)

  pub run_laid : (out out' : List ℕ) → out' ≡ over row out → out' ≡ over run out
  run_laid out out' h = h ∙ ap (λ (b : List ℕ). over b out) (sym e)

module _ (run : List ℕ) (e : run ≡ []) where
  pub none_size : 0 ≡ length run
  none_size = sym (ap length e)

  pub none_laid : (out : List ℕ) → out ≡ over run out
  none_laid out = sym (ap (λ (b : List ℕ). over b out) e ∙ over_none out)

-- a box and a wire have room where their run has
module _ (run out : List ℕ) (room : length run ≤ length out) where
  pub box_room : (f : Form) (v : Box Route Demand) → run ≡ box_bytes f.route v → Usable f → node_width f ≤ length out
  box_room f v e usable = omega (arith, ap length e, box_long f usable v)

  pub wire_room : (w : Wire) → run ≡ wire_bytes w → 5 ≤ length out
  wire_room w e = omega (arith, ap length e, wire.size w)

pub ruleset runs = (run_size, run_laid, none_size, none_laid)
