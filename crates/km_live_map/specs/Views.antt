-- What a token knows of the book.
use Rattle.std.specs.Prelude.{◌≡◌, ℕ, ◌<◌, ◌≤◌, ◌≢◌, max, Bool, true, false, Option, Some, None, List, [], length, drop}
use Rattle.atomic_table.specs.Seated.{TableId}
use Rattle.km_core.specs.Cores.{Seen}
use Rattle.km_numbered.specs.Members as members
use Rattle.km_numbered.specs.Members.{Member, IsAlone, KnowsAll, has, list_of}
use Rattle.km_rounds.specs.declared.entry.Entry.{Entry}
use Rattle.km_rounds.specs.Journals.{entries_by}
use Rattle.km_live_map.specs.Ticks.{OnlyFirstTicks}
use Rattle.km_live_map.specs.Books.{Book}

-- a token's number and its entries, with what the first keeps of those that it took in; the greatest length of a journal
-- that it took or gave; whether it holds the book, and the journal as it was taken; and what the book began with
pub record View : Type 0 where
  pub member : Member Entry
  pub most : ℕ
  pub holding : Bool
  pub taken : List Entry
  pub about : Option (Seen × ℕ)  -- the opening state, and how many entries the journal has room for

-- a token: of which baton, and what it knows
pub record TokenOf : Type 0 where
  pub baton : TableId
  pub view : View

-- before the book is there
abbrev pub blank : View
blank = record { member = members.first; most = 0; holding = false; taken = []; about = None }

-- the first token of a book
abbrev pub begun : Book → View
begun b = record { member = members.first; most = 0; holding = false; taken = []; about = Some (b.opening, b.entries) }

-- a token that was joined
abbrev pub joined : View
joined = record { member = members.gone; most = 0; holding = false; taken = []; about = None }

-- a token that a token makes
abbrev pub split_off : View → View
split_off v = record { member = members.fresh v.member.next; most = 0; holding = false; taken = []; about = v.about }

abbrev pub after_split : View → View
after_split v = record v { member = members.with_next v.member }

-- another was joined
abbrev pub after_join : View → View → View
after_join v w = record v { member = members.with_kept v.member w.member; most = max v.most w.most }

-- it took the book
abbrev pub after_take : View → Book → View
after_take v b = record v { holding = true; taken = b.journal; most = length b.journal }

-- it gave the book, and what the journal has more than the taken one are its own entries
abbrev pub after_give : View → Book → View
after_give v b = record v { member = members.with_more v.member (drop (length v.taken) b.journal); holding = false; taken = []; most = length b.journal }

-- what a token that takes the book learns of it
pub record Knows (v : View) (b : Book) : Type 0 where
  pub about : v.about ≡ Some (b.opening, b.entries)
  pub own : entries_by b.journal v.member.number ≡ v.member.own
  pub most : v.most ≤ length b.journal
  pub ticks : OnlyFirstTicks b.journal
  pub kept : v.member.number ≡ 0 → (k : ℕ) → has k v.member.kept ≡ true → entries_by b.journal k ≡ list_of k v.member.kept
  pub all : v.member.number ≡ 0 → IsAlone v.member → KnowsAll v.member (entries_by b.journal)

-- at some moment the book was with another token. Where this one has number 0, that was one that was split off and not joined
pub record IsAway (v : View) : Type 0 where
  pub holder : ℕ
  pub other : holder ≢ v.member.number
  pub out : v.member.number ≡ 0 → (holder < v.member.next) × (has holder v.member.kept ≡ false)
