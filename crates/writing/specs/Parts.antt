-- A network record as it is laid down.
use Rattle.std.specs.Prelude.{ℕ, List, ◌++◌, ◌≡◌, length}
use Rattle.layout.specs.Layout.{head_width}

-- The record is a head, policies, nodes and edges, one behind another, and as long as `size` says.
pub record Parts (all : List ℕ) (size : ℕ) (head policies nodes edges : List ℕ) : Type 0 where
  pub is : all ≡ head ++ (policies ++ (nodes ++ edges))
  pub long : size ≡ length all
  pub ten : head_width ≡ length head
