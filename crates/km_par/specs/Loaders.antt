-- What contracts see of loaders and of what they loaded.
use Rattle.std.specs.Prelude.{◌≡◌, ℕ, ◌*◌, ◌<◌, ◌≤◌, List, [], length, flat_map, get_or, Some, None}
use Rattle.std.specs.Fork.{slice_chunk}
use Rattle.std.specs.List.{AllPairs, AllZip}
use Rattle.km_base.specs.declared.spans.Addr.{Addr}
use Rattle.km_chunks.specs.declared.load.Load.{Load}
use Rattle.km_chunks.specs.Loads.{words_of, steps_of, given_in}
use Rattle.km_live_words.specs.Hands.{HandOf, Opened}
use Rattle.km_numbered.specs.Members.{with_more}
use Rattle.km_words.specs.Told.{Told}

-- a loader: its hand, and what it loaded last
pub record LoaderOf : Type 0 where
  pub hand : HandOf
  pub share : List Load

-- what was loaded for a chunk, and how many words the memory has
pub record Chunk : Type 0 where
  pub size : ℕ
  pub loads : List Load

-- its words give the first value that was loaded, and tell neither a memory nor steps
abbrev pub told_of : Chunk → Told
told_of c = record { size = c.size; place = []; memory = None; given = Some (given_in c.size c.loads); steps = None }

-- each load is at a word after those of the loads before it
abbrev pub Ascending : List Load → Type 0
Ascending loads = AllPairs (λ (l m : Load). l.word.0 < m.word.0) loads

-- so many shares of this size are as many words, or more
abbrev pub Covers : ℕ → ℕ → ℕ → Type 0
Covers count loaders each = count ≤ loaders * each

-- a loader's hand made a load step for each load of its share, in order, and no others
pub record HasStepped (v w : LoaderOf) : Type 0 where
  pub table : w.hand.table ≡ v.hand.table
  pub steps : w.hand.hand ≡ with_more v.hand.hand (steps_of w.share)

-- a loader loaded these words, and no others
pub record HasLoaded (at : List Addr) (v w : LoaderOf) : Type 0 where
  pub words : words_of w.share ≡ at
  pub stepped : HasStepped v w

-- each loader loaded its run of these words
pub record HaveLoaded (at : List Addr) (each : ℕ) (v w : List LoaderOf) : Type 0 where
  pub same : length w ≡ length v
  pub shares : (i : ℕ) (d : LoaderOf) → i < length v → HasLoaded (slice_chunk at each i) (get_or v i d) (get_or w i d)

-- a chunk was loaded from these words by loaders
pub record IsFetched (live : Opened) (at : List Addr) (v w : List LoaderOf) (chunk : Chunk) : Type 0 where
  pub size : chunk.size ≡ length live.words
  pub words : words_of chunk.loads ≡ at  -- each word has one value
  pub shares : flat_map (λ (l : LoaderOf). l.share) w ≡ chunk.loads  -- each load is in the share of one loader, and in no other
  pub stepped : AllZip HasStepped v w  -- each load of a share is one load step of its loader's hand, and there are no other steps
