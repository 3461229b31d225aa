-- What is refused of a network record: numbers 1 to 10, the first that applies (document 01, 'The numbers given back').
use Rattle.std.specs.Prelude.{ℕ, ◌+◌, ◌≤◌, ◌<◌, Bool, not, ◌||◌, true, false, List, [], ◌∷◌, eqb, ltb, length, drop, ◌≡◌}
use Rattle.lists.specs.First.{first_bad}
use Rattle.lists.specs.Test.{first_applying}
use Rattle.numbers.specs.BigEndian.{u32_at}
use Rattle.layout.specs.Layout.{node_count, edge_count, policy_count, policy_offset, node_part, node_offset, edge_offset, total}
use Rattle.nodes.specs.Node.{node_ok, ownless}
use Rattle.records.specs.Edge.{edge_ok, input_ok}
use Rattle.lists.specs.Answer.{refused, Answer, given}
use Rattle.layout.specs.declared.Form.{Form}
use Rattle.nodes.specs.Policy.{policy_ok}
use Rattle.layout.specs.Form.{form_of, versioned}

module _ (f : Form) (b : List ℕ) where
  -- the first policy, node, edge and input with a fault, or their number
  abbrev pub bad_policy : ℕ
  bad_policy = first_bad (policy_ok b) (policy_count b)

  abbrev pub bad_node : ℕ
  bad_node = first_bad (node_ok f b) (node_count b)

  abbrev pub bad_edge : ℕ
  bad_edge = first_bad (edge_ok f b) (edge_count b)

  abbrev pub bad_input : ℕ
  bad_input = first_bad (input_ok f b) (node_count b)

  -- a count over its bound
  unfoldable pub many_parts : Bool
  many_parts = ltb f.most (node_count b) || (ltb 4096 (edge_count b) || ltb 64 (policy_count b))

  -- the table, in the document's order; 1 stands twice
  abbrev pub network_table : {A : Type 0} → List (Bool × Answer A)
  network_table =
      (ltb (length b) 10, refused 1 (length b)) ∷
      (not (versioned f b), refused 2 4) ∷
      (many_parts, refused 3 5) ∷
      (not (eqb (u32_at b 0 + 4) (total f b)), refused 4 0) ∷
      (ltb (length b) (total f b), refused 1 (length b)) ∷
      (ltb (total f b) (length b), refused 5 (total f b)) ∷
      (ltb bad_policy (policy_count b), refused 6 (policy_offset bad_policy)) ∷
      (ltb bad_node (node_count b), refused 7 (node_offset f b bad_node)) ∷
      (ownless f b, refused 8 (node_part b)) ∷
      (ltb bad_edge (edge_count b), refused 9 (edge_offset f b bad_edge)) ∷
      (ltb bad_input (node_count b), refused 10 (node_offset f b bad_input)) ∷
      []

  -- the first that applies of the rows from the k-th on, or the record's form
  unfoldable pub network_from : ℕ → Answer Form
  network_from k = first_applying (drop k network_table) (given f)

-- the first that applies, or the record's form
unfoldable pub network_refusal : List ℕ → Answer Form
network_refusal b = first_applying (network_table (form_of b) b) (given (form_of b))

-- A network is sound where none of 1 to 10 applies.
abbrev pub SoundRecord : List ℕ → Type 0
SoundRecord b = network_refusal b ≡ given (form_of b)

-- the same, fact by fact
pub record NetworkFine (f : Form) (b : List ℕ) : Type 0 where
  pub long : 10 ≤ length b
  pub version : versioned f b ≡ true
  pub few_nodes : node_count b ≤ f.most
  pub few_edges : edge_count b ≤ 4096
  pub few_policies : policy_count b ≤ 64
  pub said : u32_at b 0 + 4 ≡ total f b
  pub whole : total f b ≡ length b
  pub policies : (i : ℕ) → i < policy_count b → policy_ok b i ≡ true
  pub nodes : (i : ℕ) → i < node_count b → node_ok f b i ≡ true
  pub own : ownless f b ≡ false
  pub edges : (j : ℕ) → j < edge_count b → edge_ok f b j ≡ true
  pub inputs : (i : ℕ) → i < node_count b → input_ok f b i ≡ true
