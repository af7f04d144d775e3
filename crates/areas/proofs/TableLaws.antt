-- Laws of storing a table of contents, entry by entry. Assumes nothing.
use Prim.Native.Nat.{ℕ, ◌+◌, ◌*◌, ◌<◌, ◌≤◌}
use native.Mathlib.Omega.{arith}
use mathlib.Core.Path.{◌≡◌, refl, sym, ap, ap₂, ◌∙◌}
use mathlib.Core.List.{List, [], ◌++◌}
use lib.ListN.{length, get_or, get_or-map, drop, length-map}
use lib.Seq.{drop-length, sets}
use Rattle.wire.specs.Bytes.{bytes16, bytes32}
use Rattle.wire.proofs.ListLaws.{drop_next, sets_then}
use Rattle.contents.specs.Contents.{table_length, entries_bytes, contents_bytes}
use Rattle.contents.specs.Steps.{total}
use Rattle.areas.specs.declared.table.Body.{Body}
use Rattle.areas.specs.Tables.{tags_of, lengths_of}

-- the entries behind the first i, stored from where those end, and one turn of storing them
pub entries_next : (tags lengths : List ℕ) (i start : ℕ) → i < length tags → length lengths ≡ length tags
    → entries_bytes (drop i tags) (drop i lengths) start
    ≡ (bytes16 (get_or tags i 0) ++ (bytes32 start ++ bytes32 (get_or lengths i 0))) ++ entries_bytes (drop (i + 1) tags) (drop (i + 1) lengths) (start + get_or lengths i 0)
unfolding entries_bytes
entries_next tags lengths i start h e =
    ap₂ (λ (ts ls : List ℕ). entries_bytes ts ls start) (drop_next tags i 0 h) (drop_next lengths i 0 (omega arith))

total_next : (lengths : List ℕ) (i : ℕ) → i < length lengths → total (drop i lengths) ≡ get_or lengths i 0 + total (drop (i + 1) lengths)
unfolding total
total_next lengths i h = ap total (drop_next lengths i 0 h)

-- what is left to store where the number of entries and the first i of them are stored; area₀ is the area before the first entry
pub record EntriesStored (tags lengths area₀ area : List ℕ) (i start : ℕ) : Type 0 where
  pub within : i ≤ length tags
  pub same : length area ≡ length area₀
  pub sum : start + total (drop i lengths) ≡ table_length (length tags) + total lengths
  pub left : sets area (2 + 10 * i) (entries_bytes (drop i tags) (drop i lengths) start) ≡ sets area₀ 2 (entries_bytes tags lengths (table_length (length tags)))

module _ (tags lengths area₀ : List ℕ) where
  pub stored_start : EntriesStored tags lengths area₀ area₀ 0 (table_length (length tags))
  stored_start = record { within = omega arith; same = refl; sum = refl; left = refl }

  module _ {area : List ℕ} {i start : ℕ} (p : EntriesStored tags lengths area₀ area i start) where
    -- the next start is at most where the last body ends
    pub stored_small : i < length tags → length lengths ≡ length tags → start + get_or lengths i 0 ≤ table_length (length tags) + total lengths
    stored_small h e = omega (arith, p.sum, total_next lengths i (omega arith))

    pub stored_next : {area' : List ℕ} → i < length tags → length lengths ≡ length tags
        → area' ≡ sets area (2 + 10 * i) (bytes16 (get_or tags i 0) ++ (bytes32 start ++ bytes32 (get_or lengths i 0)))
        → length area' ≡ length area
        → EntriesStored tags lengths area₀ area' (i + 1) (start + get_or lengths i 0)
    stored_next {area'} h e w l =
        let entry : List ℕ = bytes16 (get_or tags i 0) ++ (bytes32 start ++ bytes32 (get_or lengths i 0)) in
        let rest : List ℕ = entries_bytes (drop (i + 1) tags) (drop (i + 1) lengths) (start + get_or lengths i 0) in
        record {
          within = omega arith;
          same = l ∙ p.same;
          sum = omega (arith, p.sum, total_next lengths i (omega arith));
          left =
              ap (λ (a : List ℕ). sets a (2 + 10 * (i + 1)) rest) w
              ∙ sets_then area (2 + 10 * i) (2 + 10 * (i + 1)) entry rest (omega arith)
              ∙ ap (sets area (2 + 10 * i)) (sym (entries_next tags lengths i start h e))
              ∙ p.left;
        }

    -- every entry is stored, behind their number
    pub stored_all : (before : List ℕ) → length tags ≤ i → area₀ ≡ sets before 0 (bytes16 (length tags)) → area ≡ sets before 0 (contents_bytes tags lengths)
    unfolding entries_bytes contents_bytes
    stored_all before h e =
        let k : i ≡ length tags = omega (arith, p.within) in
        let none : entries_bytes (drop i tags) (drop i lengths) start ≡ [] = rw (ap (λ (j : ℕ). drop j tags) k ∙ drop-length tags) refl in
        sym (ap (sets area (2 + 10 * i)) none)
        ∙ p.left
        ∙ ap (λ (a : List ℕ). sets a 2 (entries_bytes tags lengths (table_length (length tags)))) e

-- bodies have a tag and a length each: how many, and those of body i
module _ (bodies : List Body) where
  pub tags_count : length (tags_of bodies) ≡ length bodies
  tags_count = length-map bodies (λ (b : Body). b.tag)

  pub paired : length (lengths_of bodies) ≡ length (tags_of bodies)
  paired = length-map bodies (λ (b : Body). b.length) ∙ sym tags_count

  pub tag_at : (i : ℕ) → get_or (tags_of bodies) i 0 ≡ (get_or bodies i (record { tag = 0; length = 0 })).tag
  tag_at i = get_or-map (λ (b : Body). b.tag) bodies i (record { tag = 0; length = 0 })

  pub length_at : (i : ℕ) → get_or (lengths_of bodies) i 0 ≡ (get_or bodies i (record { tag = 0; length = 0 })).length
  length_at i = get_or-map (λ (b : Body). b.length) bodies i (record { tag = 0; length = 0 })
