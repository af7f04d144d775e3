-- Nodes of a node body that is being made, and what the steps that store them ask for and leave.
use Rattle.std.specs.Prelude.{ℕ, ◌+◌, ◌*◌, ◌-◌, ◌≤◌, ◌<◌, ◌≡◌, Bool, false, cond, List, get_or, eqb, Result, Ok, Err, IsOkAnd}
use Rattle.std.proofs.lemmas.List.Edits.{sets}
use Rattle.refusal.specs.declared.causes.Refusal.{Refusal}
use Rattle.refusal.specs.declared.causes.Refusal.TheVariants as cause
use Rattle.wire.specs.Limits.{most_nodes}
use Rattle.node.specs.declared.nodes.Node.{Node}
use Rattle.node.specs.NodeBytes.{node_fields, nodes_bytes}
use Rattle.grammar.specs.Characters.{closing}
use Rattle.scanner.specs.declared.Leaf.{Leaf}
use Rattle.emitter.specs.declared.Part.{Part}

-- a node body with a node of this kind, without a mark and with these fields, stored as node i
unfoldable pub put_fields : List ℕ → ℕ → ℕ → ℕ → ℕ → List ℕ
put_fields body i kind a b = sets body (6 * i) (node_fields kind 0 a b)

-- a node body with these nodes stored, the first of them as node i
unfoldable pub put_nodes : List ℕ → ℕ → List Node → List ℕ
put_nodes body i ns = sets body (6 * i) (nodes_bytes ns)

-- a node can be stored: it is one of 4,096, and so are its operands, and there is room for all of them
pub record Storable (i a b room : ℕ) : Type 0 where
  pub index : i < most_nodes
  pub first : a < most_nodes
  pub second : b < most_nodes
  pub fits : 6 * most_nodes ≤ room

-- of what was read something is made, as P says of both; a refusal is handed on, and then nothing is said of the node body, as the service throws it away
abbrev pub HandsOn : {A B : Type 0} → (A → B → Type 0) → Result A Refusal → Result B Refusal → Type 0
HandsOn P (Ok a) r = IsOkAnd r (P a)
HandsOn P (Err why) r = r ≡ Err why

-- the leaf's node is stored
abbrev pub LeafStored : Leaf → ℕ → List ℕ → List ℕ → Part → Type 0
LeafStored leaf made old new r = (r ≡ record { end = leaf.end; made = made + 1 }) × (new ≡ put_fields old made leaf.kind leaf.field 0)

-- with m nodes made, one at least, and then k, one node can be stored behind these
pub record Joinable (m k room : ℕ) : Type 0 where
  pub some : 1 ≤ m
  pub more : m ≤ k
  pub index : k < most_nodes
  pub fits : 6 * most_nodes ≤ room

-- a node that joins the last of the m nodes and the last one is stored
abbrev pub Joined : ℕ → ℕ → Part → List ℕ → List ℕ → Part → Type 0
Joined kind m next old new r = (r ≡ record { end = next.end; made = next.made + 1 }) × (new ≡ put_fields old next.made kind (m - 1) (next.made - 1))

-- a NOT of the last node is stored
abbrev pub Negated : Part → List ℕ → List ℕ → Part → Type 0
Negated under old new r = (r ≡ record { end = under.end; made = under.made + 1 }) × (new ≡ put_fields old under.made 3 (under.made - 1) 0)

-- this byte follows what was read; behind a refusal none does
unfoldable pub follows_by : List ℕ → Result Part Refusal → ℕ → Bool
follows_by text (Ok so) b = eqb (get_or text so.end 0) b
follows_by text (Err why) b = false

-- what was read, and the ) behind it
unfoldable pub closed : List ℕ → Result Part Refusal → Result Part Refusal
closed text (Ok inner) = cond (follows_by text (Ok inner) closing) (Ok (record { end = inner.end + 1; made = inner.made })) (Err (cause.Text inner.end))
closed text (Err why) = Err why
