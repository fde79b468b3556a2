-- Tables of counts, a place for each word of the memory: that of a block is the one of its first word.
use Rattle.std.specs.Prelude.{◌≡◌, ℕ, ◌+◌, ◌*◌, ◌^◌, ◌<◌, ◌≤◌, true, false, nat_lt, List, Option, Some, None, length, slice_index_or, slice_set, if◌then◌else◌}
use Rattle.km_model.specs.Memory.{index_of}
use Rattle.km_model.specs.Members.{Each, In, Pairs}
use Rattle.km_track.specs.Tracker.{Tracker}
use Rattle.km_why.specs.Told.{AreApart, IsInMemory, IsOfWords, blocks_of}
use Rattle.km_model.specs.Blocks.{Block, Black, AtLeast, is_black}
use Rattle.km_why.specs.References.{found_in, has, references, span_of}
use Rattle.km_base.specs.Spans.{untagged}
use Rattle.km_record.specs.declared.record.Record.{Record}
use Rattle.km_record.specs.Records.{block_of}
use Rattle.km_why.specs.declared.counts.Count.{Count}

-- nothing is found
abbrev pub none_found : Count
none_found = record { found = 0; outside = 0 }

-- the counts at a place
abbrev pub count_at : List Count → ℕ → Count
count_at counts p = slice_index_or counts p none_found

-- one more is found
abbrev pub raised : List Count → ℕ → List Count
raised counts p = slice_set counts p (record { found = (count_at counts p).found + 1; outside = (count_at counts p).outside })

-- one more may be passed on
abbrev pub added : List Count → ℕ → List Count
added counts p = slice_set counts p (record { found = (count_at counts p).found; outside = (count_at counts p).outside + 1 })

-- a head passes on what it has beyond its minimum to a block, unless the word is in that
abbrev pub passed_in : List Count → ℕ → ℕ → ℕ → Block → List Count
passed_in counts a head min e =
    if has (span_of e) a then counts
    else (if nat_lt min (count_at (added counts head) head).outside then raised (added counts head) (index_of e.start) else added counts head)

-- the counts stand for the references in these words
pub record AreCounted (memory : List ℕ) (blocks : List Block) (words : List ℕ) (counts : List Count) : Type 0 where
  pub found : (b : Block) → In b blocks → (count_at counts (index_of b.start)).found ≡ found_in memory blocks words b
  pub outside : (h e : Block) → In h blocks → In e blocks → h.excess ≡ Some e.start → is_black h ≡ false → (count_at counts (index_of h.start)).outside ≡ references memory (span_of h) (span_of e) words
  pub few : (b : Block) → In b blocks → found_in memory blocks words b ≤ 2 * length words
  pub fewer : (b : Block) → In b blocks → (count_at counts (index_of b.start)).outside ≤ length words

-- the counts stand for the references in some words, and those with more words aren't too many for a count
pub record HaveRoom (memory : List ℕ) (blocks : List Block) (counts : List Count) (more : List ℕ) : Type 0 where
  pub words : List ℕ
  pub few : length words + length more ≤ 2 ^ 30
  pub counted : AreCounted memory blocks words counts

-- the live blocks have ids of their own and never meet, and each is of whole words of a memory of so many
pub record AreSpread (words : ℕ) (t : Tracker) : Type 0 where
  pub rise : Pairs (λ (b c : Block). b.id < c.id) (blocks_of t)
  pub apart : Pairs (λ (b c : Block). AreApart b.start b.size c.start c.size) (blocks_of t)
  pub within : Each (λ (b : Block). IsInMemory words b.start b.size × IsOfWords b.start b.size) (blocks_of t)
  pub some : Each (λ (b : Block). 0 < b.size) (blocks_of t)

-- the counts after a word of no block of its own that points into a block, by the block at its excess
abbrev pub counted_in : List Count → ℕ → Block → Option Block → List Count
counted_in counts a x e =
    elim x.minimum [
      | Black ↦ raised counts (index_of x.start)
      | AtLeast min ↦ elim e [ None ↦ raised counts (index_of x.start) | Some b ↦ passed_in (raised counts (index_of x.start)) a (index_of x.start) min b ]
    ]

-- a record is that of a live block into which a word at an address points from outside
pub record IsReferred (blocks : List Block) (a value : ℕ) (r : Record) : Type 0 where
  pub id : ℕ
  pub live : In (block_of id r) blocks
  pub aimed : has (span_of (block_of id r)) (untagged value) ≡ true
  pub out : has (span_of (block_of id r)) a ≡ false
