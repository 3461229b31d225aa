-- Head, policies, nodes and edges, one behind another, each by a writer that is lent what remains of the buffer: the record lies over its start.
--     laid_parts        the room of each, and the whole
--     record_long, record_kept     the length; where there is no room
use Prim.Native.Nat.{ℕ, ◌+◌, ◌-◌, ◌≤◌, ◌<◌}
use native.Mathlib.Omega.{arith}
use mathlib.Core.List.{List, [], ◌++◌}
use mathlib.Core.Path.{◌≡◌, refl, ap, ◌∙◌}
use lib.ListN.{length, take, drop, length-append}
use mir.Syntax.{w64}
use mir.Val.{Fits}
use Rattle.lists.specs.Laid.{over, placed}
use Rattle.lists.proofs.Laid.{Laid, lend_fits, laid_lend, laid_head, laid_within, laid_last, laid_done, placed_fits, placed_short}
use Rattle.writing.specs.Parts.{Parts}

module _ (all : List ℕ) (size : ℕ) (head policies nodes edges : List ℕ) (t : Parts all size head policies nodes edges) (out : List ℕ) where
  long : size ≡ 10 + length (policies ++ (nodes ++ edges))
  long = let e = t.ten in t.long ∙ ap length t.is ∙ omega (arith, length-append head (policies ++ (nodes ++ edges)))

  pub size_four : 4 ≤ size
  size_four = omega (arith, long)

  -- there is no room
  pub record_kept : length out < size → out ≡ placed all out
  record_kept h = let e = t.long in placed_short all out out (omega arith) refl

  module _ (room : size ≤ length out) where
    fits : length all ≤ length out
    fits = let e = t.long in omega arith

    pub head_room : 10 ≤ length out
    head_room = omega (arith, long)

    -- the offsets behind the policies and behind the nodes
    module _ (g : size < 16777216) (a : ℕ) (p : a ≡ length policies) where
      pub nodes_sum : Fits w64 (10 + a)
      nodes_sum = omega (arith, long, length-append policies (nodes ++ edges))

      pub edges_sum : (b : ℕ) → b ≡ length nodes → Fits w64 (10 + a + b)
      edges_sum b q = omega (arith, long, length-append policies (nodes ++ edges), length-append nodes edges)

    module _ (one : List ℕ) (e : one ≡ over head out) where
      first : Laid out one 10 (policies ++ (nodes ++ edges)) all
      first = laid_head out one head (policies ++ (nodes ++ edges)) all 10 t.is t.ten e fits

      pub policies_at : 10 ≤ length one
      policies_at = laid_within out one _ all 10 fits first

      pub policies_room : length policies ≤ length (take (length one - 10) (drop 10 one))
      policies_room = lend_fits out one 10 policies (nodes ++ edges) all fits first

      module _ (back : List ℕ) (a : ℕ) (p : a ≡ length policies) (q : back ≡ over policies (take (length one - 10) (drop 10 one))) where
        abbrev two : List ℕ
        two = take 10 one ++ (back ++ drop (length one - 10) (drop 10 one))

        second : Laid out two (10 + a) (nodes ++ edges) all
        second = laid_lend out one 10 policies (nodes ++ edges) all fits first back a p q

        pub nodes_at : 10 + a ≤ length two
        nodes_at = laid_within out two _ all (10 + a) fits second

        pub nodes_room : length nodes ≤ length (take (length two - (10 + a)) (drop (10 + a) two))
        nodes_room = lend_fits out two (10 + a) nodes edges all fits second

        module _ (back' : List ℕ) (b : ℕ) (p' : b ≡ length nodes) (q' : back' ≡ over nodes (take (length two - (10 + a)) (drop (10 + a) two))) where
          abbrev three : List ℕ
          three = take (10 + a) two ++ (back' ++ drop (length two - (10 + a)) (drop (10 + a) two))

          third : Laid out three (10 + a + b) (edges ++ []) all
          third = laid_last out three (10 + a + b) edges all (laid_lend out two (10 + a) nodes edges all fits second back' b p' q')

          pub edges_at : 10 + a + b ≤ length three
          edges_at = laid_within out three _ all (10 + a + b) fits third

          pub edges_room : length edges ≤ length (take (length three - (10 + a + b)) (drop (10 + a + b) three))
          edges_room = lend_fits out three (10 + a + b) edges [] all fits third

          pub record_laid : (back'' : List ℕ) → back'' ≡ over edges (take (length three - (10 + a + b)) (drop (10 + a + b) three))
              → take (10 + a + b) three ++ (back'' ++ drop (length three - (10 + a + b)) (drop (10 + a + b) three)) ≡ placed all out
          record_laid back'' q'' = placed_fits all out _ fits
              (laid_done _ _ _ [] _ (laid_lend out three (10 + a + b) edges [] all fits third back'' (length edges) refl q'') refl).1

pub record_long : (all : List ℕ) (size : ℕ) (head policies nodes edges : List ℕ) → Parts all size head policies nodes edges → size ≡ length all
record_long all size head policies nodes edges t = t.long

pub ruleset laid_parts = (
  size_four,
  head_room,
  policies_at,
  policies_room,
  nodes_sum,
  nodes_at,
  nodes_room,
  edges_sum,
  edges_at,
  edges_room,
  record_laid,
)
