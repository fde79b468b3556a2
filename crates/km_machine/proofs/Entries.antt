-- The bytes of a block, and the rows that show them.
use Rattle.std.proofs.Common.{◌≡◌, ℕ, zero, suc, ◌+◌, ◌*◌, ◌/◌, ◌%◌, ◌^◌, ◌<◌, ◌≤◌, min, true, List, [], ◌∷◌, ◌++◌, length, take, drop, Some, refl, sym, ap, ◌∙◌, subst, arith, append_assoc}
use Rattle.std.specs.Prelude.{flat_map}
use Rattle.std.specs.Int.{byte_at, bytes_low_first}
use Rattle.std.proofs.lemmas.Bool.{and_from, eq-eqb, le-leb, lt-ltb}
use Rattle.std.proofs.lemmas.Grind.{flat_map-append}
use Rattle.std.proofs.lemmas.List.{append-nil, append_cancel_left, length-drop, take-append-drop, take-take, take_at, take_min}
use Rattle.std.proofs.Math.Nat.{div-div-eq-div-mul, pow-suc}
use Rattle.km_edge.specs.Streams.{SinkState, Wrote}
use Rattle.km_edge.proofs.Writing.{wrote_more, wrote_none}
use Rattle.km_laws.specs.Placed.{InMemory}
use Rattle.km_model.specs.Blocks.{Block, words_of}
use Rattle.km_model.specs.Memory.{base, in_memory, word_at, words_from}
use Rattle.km_model.specs.Text.{first_bytes, hex_row, hex_rows, low_bytes}
use Rattle.km_record.specs.declared.kinds.RecId.{RecId}
use Rattle.km_record.specs.declared.record.Record.{Record}
use Rattle.km_record.specs.Records.{block_of}
use Rattle.km_track.specs.Tracker.{Live, Tracker, live_with, tracked_of}
use Rattle.km_machine.proofs.Pieces.{Stops, stops_behind, stops_early}

-- the bytes of a number, from one on
bytes_low : (k i n : ℕ) → bytes_low_first i k n ≡ low_bytes k (n / 256 ^ i)
bytes_low zero i n = refl
bytes_low (suc k) i n =
    ap (λ b. b ∷ bytes_low_first (suc i) k n) (lowest i)
    ∙ ap (λ bs. n / 256 ^ i % 256 ∷ bs) (bytes_low k (suc i) n ∙ ap (low_bytes k) (ap (λ p. n / p) (pow-suc 256 i) ∙ sym (div-div-eq-div-mul n (256 ^ i) 256)))
  where
    lowest : (i : ℕ) → byte_at i n ≡ n / 256 ^ i % 256
    lowest zero = omega arith
    lowest (suc i) = refl

pub bytes_of : (n : ℕ) → bytes_low_first 0 8 n ≡ low_bytes 8 n
bytes_of n = bytes_low 8 0 n ∙ ap (low_bytes 8) (omega arith)

-- the words of a block, up to one and with it
word_behind : (n a i : ℕ) → i < n → take (suc i) (words_from n a) ≡ take i (words_from n a) ++ (a + 8 * i) ∷ []
word_behind zero a i low = absurd (omega (arith, low))
word_behind (suc n) a zero low = ap (λ w. w ∷ []) (omega arith)
word_behind (suc n) a (suc i) low =
    ap (λ ws. a ∷ ws) (word_behind n (a + 8) i (omega (arith, low)) ∙ ap (λ w. take i (words_from n (a + 8)) ++ w ∷ []) (omega arith))

length-words_from : (n a : ℕ) → length (words_from n a) ≡ n
length-words_from zero a = refl
length-words_from (suc n) a = ap suc (length-words_from n (a + 8))

-- the bytes of so many words of a block
abbrev pub bytes_to : List ℕ → Block → ℕ → List ℕ
bytes_to memory b i = flat_map (λ a. low_bytes 8 (word_at memory a)) (take i (words_of b))

-- those of one more
pub bytes_more : (memory : List ℕ) (b : Block) (i start : ℕ) → b.start ≡ start → i < b.size / 8 → bytes_to memory b (i + 1) ≡ bytes_to memory b i ++ low_bytes 8 (word_at memory (start + 8 * i))
bytes_more memory b i start is low =
    let text = λ (a : ℕ). low_bytes 8 (word_at memory a) in
    let next : i + 1 ≡ suc i = omega arith in
    ap (bytes_to memory b) next ∙ ap (flat_map text) (word_behind (b.size / 8) b.start i low) ∙ flat_map-append text (take i (words_of b)) ((b.start + 8 * i) ∷ [])
    ∙ ap (λ xs. bytes_to memory b i ++ xs) (append-nil (text (b.start + 8 * i)) ∙ ap (λ s. text (s + 8 * i)) is)

-- such a word is in the memory
pub word_inside : (words : ℕ) (b : Block) (i start size : ℕ) → b.start ≡ start → b.size ≡ size → InMemory words b.start b.size → start % 8 ≡ 0 → i < size / 8 → in_memory words (start + 8 * i) ≡ true
word_inside words b i start size is sized lies whole low =
    let from = lies.0 in let to = lies.1 in
    and_from _ _ (and_from _ _ (le-leb base (start + 8 * i) (omega (arith, from, is))) (eq-eqb _ 0 (omega (arith, from, is, whole)))) (lt-ltb _ (8 * words) (omega (arith, from, to, is, sized, low)))

-- four words at most are enough
pub first_are : (memory bytes : List ℕ) (b : Block) (count : ℕ) → b.size % 8 ≡ 0 → count ≡ min b.size 32 / 8 → take (8 * count) bytes ≡ bytes_to memory b count → take (8 * count) bytes ≡ first_bytes memory b
first_are memory bytes b count whole is in_place =
    let words : take count (words_of b) ≡ take 4 (words_of b) = ap (λ n. take n (words_of b)) (omega (arith, is, length-words_from (b.size / 8) b.start)) ∙ take_min 4 (words_of b) in
    let all : min 32 b.size ≡ 8 * count = omega (arith, is, whole) in
    sym (take-take (8 * count) (8 * count) bytes (omega arith)) ∙ ap (λ n. take n (take (8 * count) bytes)) (sym all)
    ∙ ap (take (min 32 b.size)) (in_place ∙ ap (flat_map (λ a. low_bytes 8 (word_at memory a))) words)

-- the block of a record that was found
pub its_block : (t u : Tracker) (id : RecId) (r : Record) (l : Live) → u ≡ t → Some (record { slot = id.slot; tracked = tracked_of id.generation r }) ≡ live_with id u → live_with id t ≡ Some l → block_of id.generation r ≡ l.tracked.block
its_block t u id r l same e f =
    let it : record { slot = id.slot; tracked = tracked_of id.generation r } ≡ l = cc in
    ap (λ (x : Live). x.tracked.block) it

-- rows that are written of chunks of so many bytes: what is left of the bytes, and how many rows it takes at most
pub record Rows (n : ℕ) (bytes rest : List ℕ) (k k' : SinkState) : Type 0 where
  pub size : n ≡ 16
  pub left : ℕ
  pub done : List ℕ
  pub short : length rest ≤ 16 * left
  pub text : hex_rows 2 bytes ≡ done ++ hex_rows left rest
  pub wrote : Wrote k k' done

pub rows_begin : (n : ℕ) (bytes rest : List ℕ) (k : SinkState) → n ≡ 16 → rest ≡ bytes → length bytes ≤ 32 → Rows n bytes rest k k
rows_begin n bytes rest k size all short = record { size = size; left = 2; done = []; short = omega (arith, ap length all, short); text = ap (hex_rows 2) (sym all); wrote = wrote_none k }

-- a chunk is taken from what is left
abbrev pub Takes : ℕ → ℕ → List ℕ → List ℕ → List ℕ → Type 0
Takes n m rest row more = (m ≡ n) × ((rest ≡ row ++ more) × (length row ≡ min n (length rest)) × (0 < length rest))

-- the first row of what is left
pub record First (left : ℕ) (done rest row more : List ℕ) : Type 0 where
  pub fewer : ℕ
  pub short : length more ≤ 16 * fewer
  pub text : done ++ hex_rows left rest ≡ done ++ hex_row row ++ hex_rows fewer more

first_row : (left : ℕ) (done rest row more : List ℕ) → length rest ≤ 16 * left → rest ≡ row ++ more → length row ≡ min 16 (length rest) → 0 < length rest → First left done rest row more
first_row zero done rest row more short is size some = absurd (omega (arith, short, some))
first_row (suc n) done [] row more short is size some = absurd (omega (arith, some))
first_row (suc n) done (x ∷ xs) row more short is size some =
    let front : take 16 (x ∷ xs) ≡ row = sym (take_min 16 (x ∷ xs)) ∙ ap (take (min 16 (length (x ∷ xs)))) is ∙ take_at row more (min 16 (length (x ∷ xs))) size in
    let back : drop 16 (x ∷ xs) ≡ more = append_cancel_left row (drop 16 (x ∷ xs)) more (ap (λ r. r ++ drop 16 (x ∷ xs)) (sym front) ∙ take-append-drop 16 (x ∷ xs) ∙ is) in
    record {
      fewer = n;
      short = omega (arith, ap length back, length-drop 16 (x ∷ xs), short);
      text = ap (λ r. done ++ (hex_row r ++ hex_rows n (drop 16 (x ∷ xs)))) front ∙ ap (λ m. done ++ (hex_row row ++ hex_rows n m)) back ∙ sym (append_assoc done (hex_row row) (hex_rows n more));
    }

row_taken : (n m : ℕ) (bytes rest row more : List ℕ) (a b : SinkState) (r : Rows n bytes rest a b) → Takes n m rest row more → First r.left r.done rest row more
row_taken n m bytes rest row more a b r step = first_row r.left r.done rest row more r.short step.1.0 (step.1.1 ∙ ap (λ k. min k (length rest)) r.size) step.1.2

pub rows_go_on : (n m : ℕ) (bytes rest row more : List ℕ) (a b c : SinkState) → Rows n bytes rest a b → Takes n m rest row more → Wrote b c (hex_row row) → Rows m bytes more a c
rows_go_on n m bytes rest row more a b c r step wrote =
    let f = row_taken n m bytes rest row more a b r step in
    record { size = step.0 ∙ r.size; left = f.fewer; done = r.done ++ hex_row row; short = f.short; text = r.text ∙ f.text; wrote = wrote_more a b c r.done (hex_row row) r.wrote wrote }

pub rows_stop : (n m : ℕ) (bytes rest row more : List ℕ) (a b c : SinkState) → Rows n bytes rest a b → Takes n m rest row more → Stops b c (hex_row row) → Stops a c (hex_rows 2 bytes)
rows_stop n m bytes rest row more a b c r step fails =
    let f = row_taken n m bytes rest row more a b r step in
    subst (λ xs. Stops a c xs) (sym (r.text ∙ f.text)) (stops_early a c (r.done ++ hex_row row) (hex_rows f.fewer more) (stops_behind a b c r.done (hex_row row) r.wrote fails))

pub rows_end : (n : ℕ) (bytes rest : List ℕ) (a b : SinkState) → Rows n bytes rest a b → length rest ≡ 0 → Wrote a b (hex_rows 2 bytes)
rows_end n bytes [] a b r none = subst (λ xs. Wrote a b xs) (sym (r.text ∙ ap (λ xs. r.done ++ xs) (over r.left) ∙ append-nil r.done)) r.wrote
  where
    over : (k : ℕ) → hex_rows k [] ≡ []
    over zero = refl
    over (suc k) = refl
rows_end n bytes (x ∷ rest) a b r none = absurd (omega (arith, none))
