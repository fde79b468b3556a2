-- The rule of the baton.
use Rattle.std.specs.Prelude.{◌≡◌, ℕ, ◌≤◌, ◌⊎◌, true, false, Some, List, [], ◌∷◌, length, map}
use mathlib.Core.Option.{some}
use lib.ListN.{get_elem?}
use Rattle.km_core.specs.Cores.{Seen}
use Rattle.km_numbered.specs.Members.{Numbered}
use Rattle.km_rounds.specs.declared.entry.Entry.{Entry}
use Rattle.km_rounds.specs.Journals.{entries_by}
use Rattle.km_live_map.specs.Ticks.{OnlyFirstTicks}
use Rattle.km_live_map.specs.Books.{Book}
use Rattle.km_live_map.specs.Views.{View, blank}

-- the book is in the queue, and no token holds it
pub record IsIn (journal : List Entry) (opening : Seen) (entries : ℕ) (items : List Book) (views : List View) : Type 0 where
  pub book : Book
  pub alone : items ≡ book ∷ []
  pub has_journal : book.journal ≡ journal
  pub has_opening : book.opening ≡ opening
  pub has_entries : book.entries ≡ entries
  pub rest : (i : ℕ) (v : View) → get_elem? views i ≡ some v → v.holding ≡ false

-- the queue is empty, and just one token holds the book, which had this journal when it was taken
pub record IsOut (journal : List Entry) (items : List Book) (views : List View) : Type 0 where
  pub empty : items ≡ []
  pub place : ℕ
  pub holder : View
  pub there : get_elem? views place ≡ some holder
  pub holds : holder.holding ≡ true
  pub only : (i : ℕ) (v : View) → get_elem? views i ≡ some v → v.holding ≡ true → (i ≡ place) × (v.taken ≡ journal)

-- what holds of each token
pub record Rides (journal : List Entry) (opening : Seen) (entries : ℕ) (v : View) : Type 0 where
  pub rests : v.member.spent ≡ true → v.holding ≡ false
  pub most : v.member.spent ≡ false → v.most ≤ length journal
  pub about : v.member.spent ≡ false → v.about ≡ Some (opening, entries)

-- there is one journal, whose parts are those of the tokens, and one book, which has it
pub record Passed (items : List Book) (views : List View) : Type 0 where
  pub journal : List Entry
  pub opening : Seen
  pub entries : ℕ
  pub numbered : Numbered (entries_by journal) (map (λ (v : View). v.member) views)
  pub each : (i : ℕ) (v : View) → get_elem? views i ≡ some v → Rides journal opening entries v
  pub ticks : OnlyFirstTicks journal
  pub place : IsIn journal opening entries items views ⊎ IsOut journal items views

-- what holds between any two steps: before the book is put in there is one blank token
abbrev pub Ruled : List Book → List View → Type 0
Ruled items views = ((items ≡ []) × (views ≡ blank ∷ [])) ⊎ Passed items views
