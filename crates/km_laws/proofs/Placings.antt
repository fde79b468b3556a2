use Rattle.std.proofs.Common.{◌≡◌, ℕ, ◌+◌, ◌<◌, ◌≤◌, Bool, true, not, ◌==◌, nat_le, nat_lt, leb-true, ltb-true, filter, map, List, [], ◌∷◌, ◌++◌, sym, ◌∙◌, subst, arith, ◌⊎◌, inl, inr, ne_eqb}
use Rattle.std.proofs.lemmas.Bool.{and_parts, not_from_false}
use Rattle.km_model.specs.Blocks.{Block, is_within}
use Rattle.km_model.specs.Placement.{Allocation, without_allocation}
use Rattle.km_model.specs.Tasks.{Task}
use Rattle.km_laws.specs.Placed.{Apart, AllocationsApart, BlocksApart, Words, BlockPlaced, StackPlaced, is_stack, is_boot, is_tracked}
use Rattle.km_laws.proofs.Lists.{Each, Pairs, In, each_in, in_each, each_weaker, each_push, each_filter, each_map, pairs_push, pairs_filter, pairs_map, pairs_in, in_push_left, in_push_right, in_filter}
use Rattle.km_laws.proofs.Pages.{Sound, PagesApart, never_meet, Free}

-- two tasks have different stacks
abbrev pub StacksApart : Task → Task → Type 0
StacksApart t u = t.stack ≡ u.stack → ⊥

-- the allocations never meet, each block lies in one, and the stacks are some of them
pub record Placed (words : ℕ) (used : List Allocation) (bs : List Block) (ts : List Task) : Type 0 where
  pub sound : Each (Sound words) used
  pub pages : Pairs PagesApart used
  pub blocks_in : Each (BlockPlaced used) bs
  pub blocks_apart : Pairs BlocksApart bs
  pub stacks_in : Each (StackPlaced used) ts
  pub stacks_apart : Pairs StacksApart ts

apart_sym : (a size b other : ℕ) → Apart a size b other → Apart b other a size
apart_sym a size b other (inl h) = inr h
apart_sym a size b other (inr h) = inl h

-- parts of what is apart are apart
pub apart_parts : (a size b other c part d piece : ℕ) → Apart a size b other → a ≤ c → c + part ≤ a + size → b ≤ d → d + piece ≤ b + other → Apart c part d piece
apart_parts a size b other c part d piece (inl h) lo hi lo' hi' = inl (omega (arith, h, hi, lo'))
apart_parts a size b other c part d piece (inr h) lo hi lo' hi' = inr (omega (arith, h, lo, hi'))

in_span : (start size a : ℕ) → is_within start size a ≡ true → (start ≤ a) × (a < start + size)
in_span start size a h = let p = and_parts (nat_le start a) (nat_lt a (start + size)) h in (leb-true start a p.0, ltb-true a (start + size) p.1)

-- two spans that are apart have no byte in common
pub no_byte : (start size other length' a : ℕ) → Apart start size other length' → is_within start size a ≡ true → is_within other length' a ≡ true → ⊥
no_byte start size other length' a (inl k) h g = let p = in_span start size a h in let q = in_span other length' a g in let x = p.1 in let y = q.0 in omega (arith, k, x, y)
no_byte start size other length' a (inr k) h g = let p = in_span start size a h in let q = in_span other length' a g in let x = p.0 in let y = q.1 in omega (arith, k, x, y)

-- two live allocations are one, or never meet
pub one_or_apart : (words : ℕ) (used : List Allocation) (bs : List Block) (ts : List Task) (x y : Allocation) → Placed words used bs ts → In x used → In y used → (x ≡ y) ⊎ AllocationsApart x y
one_or_apart words used bs ts x y p i j =
    let sx = each_in (Sound words) used x p.sound i in
    let sy = each_in (Sound words) used y p.sound j in
    elim (pairs_in PagesApart used x y p.pages i j) [
      | inl same ↦ inl same
      | inr other ↦ inr (elim other [
        | inl k ↦ never_meet words x y sx sy k
        | inr k ↦ apart_sym y.start y.size x.start x.size (never_meet words y x sy sx k)
      ])
    ]

-- a byte is in one live allocation alone
pub one_with : (words : ℕ) (used : List Allocation) (bs : List Block) (ts : List Task) (x y : Allocation) (a : ℕ) → Placed words used bs ts → In x used → In y used
    → x.start ≤ a → a < x.start + x.size → y.start ≤ a → a < y.start + y.size → x ≡ y
one_with words used bs ts x y a p i j lo hi lo' hi' =
    elim (one_or_apart words used bs ts x y p i j) [
      | inl same ↦ same
      | inr apart ↦ absurd (elim apart [ inl k ↦ omega (arith, k, hi, lo') | inr k ↦ omega (arith, k, lo, hi') ])
    ]

pub one_at : (words : ℕ) (used : List Allocation) (bs : List Block) (ts : List Task) (x y : Allocation) → Placed words used bs ts → In x used → In y used → x.start ≡ y.start → x ≡ y
one_at words used bs ts x y p i j e =
    let sx = (each_in (Sound words) used x p.sound i).0 in
    let sy = (each_in (Sound words) used y p.sound j).0 in
    one_with words used bs ts x y x.start p i j (omega arith) (omega (arith, sx)) (omega (arith, e)) (omega (arith, e, sy))

-- a byte is in one block alone
pub one_block : (words : ℕ) (used : List Allocation) (bs : List Block) (ts : List Task) (b c : Block) (a : ℕ) → Placed words used bs ts → In b bs → In c bs
    → is_within b.start b.size a ≡ true → is_within c.start c.size a ≡ true → b ≡ c
one_block words used bs ts b c a p i j e f =
    elim (pairs_in BlocksApart bs b c p.blocks_apart i j) [
      | inl same ↦ same
      | inr other ↦ absurd (elim other [ inl k ↦ no_byte b.start b.size c.start c.size a k e f | inr k ↦ no_byte c.start c.size b.start b.size a k f e ])
    ]

block_more : (used : List Allocation) (z : Allocation) (b : Block) → BlockPlaced used b → BlockPlaced (used ++ z ∷ []) b
block_more used z b h = (h.0, in_push_left used h.0 z h.1, h.2, h.3, h.4, h.5, h.6)

stack_more : (used : List Allocation) (z : Allocation) (t : Task) → StackPlaced used t → StackPlaced (used ++ z ∷ []) t
stack_more used z t h = (h.0, in_push_left used h.0 z h.1, h.2, h.3, h.4)

-- an allocation is made
pub allocated : (words : ℕ) (used : List Allocation) (bs : List Block) (ts : List Task) (z : Allocation) → Free words used z → Placed words used bs ts → Placed words (used ++ z ∷ []) bs ts
allocated words used bs ts z free p = record {
  sound = each_push (Sound words) used z p.sound free.0;
  pages = pairs_push PagesApart used z p.pages free.1;
  blocks_in = each_weaker (BlockPlaced used) (BlockPlaced (used ++ z ∷ [])) (λ b h. block_more used z b h) bs p.blocks_in;
  blocks_apart = p.blocks_apart;
  stacks_in = each_weaker (StackPlaced used) (StackPlaced (used ++ z ∷ [])) (λ t h. stack_more used z t h) ts p.stacks_in;
  stacks_apart = p.stacks_apart;
}

-- a live allocation and a free place never meet
pub beside : (words : ℕ) (used : List Allocation) (bs : List Block) (ts : List Task) (x z : Allocation) → Placed words used bs ts → Free words used z → In x used → AllocationsApart x z
beside words used bs ts x z p free i =
    never_meet words x z (each_in (Sound words) used x p.sound i) free.0 (each_in (λ y. PagesApart y z) used x free.1 i)

-- one more block, apart from the others
pub block_added : (words : ℕ) (used : List Allocation) (bs : List Block) (ts : List Task) (b : Block) → BlockPlaced used b → Each (λ c. BlocksApart c b) bs → Placed words used bs ts → Placed words used (bs ++ b ∷ []) ts
block_added words used bs ts b place apart p = record {
  sound = p.sound;
  pages = p.pages;
  blocks_in = each_push (BlockPlaced used) bs b p.blocks_in place;
  blocks_apart = pairs_push BlocksApart bs b p.blocks_apart apart;
  stacks_in = p.stacks_in;
  stacks_apart = p.stacks_apart;
}

-- a block at the start of a free place is apart from each live block
pub clear_of : (words : ℕ) (used : List Allocation) (bs : List Block) (ts : List Task) (z : Allocation) (b : Block) → Free words used z → b.start ≡ z.start → b.size ≤ z.size
    → Placed words used bs ts → Each (λ c. BlocksApart c b) bs
clear_of words used bs ts z b free start size p =
    each_weaker (BlockPlaced used) (λ c. BlocksApart c b) (λ c h.
    apart_parts h.0.start h.0.size z.start z.size c.start c.size b.start b.size (beside words used bs ts h.0 z p free h.1)
    h.3 h.4 (omega (arith, start)) (omega (arith, start, size))) bs p.blocks_in

-- a task starts
pub task_added : (words : ℕ) (used : List Allocation) (bs : List Block) (ts : List Task) (z : Allocation) (t : Task) → Free words used z → is_stack z ≡ true → t.stack ≡ z.start → z.size ≡ 4096
    → Placed words used bs ts → Placed words (used ++ z ∷ []) bs (ts ++ t ∷ [])
task_added words used bs ts z t free stack start size p =
    let more = allocated words used bs ts z free p in
    record {
      sound = more.sound;
      pages = more.pages;
      blocks_in = more.blocks_in;
      blocks_apart = p.blocks_apart;
      stacks_in = each_push (StackPlaced (used ++ z ∷ [])) ts t more.stacks_in (z, in_push_right used z, stack, sym start, size);
      stacks_apart = pairs_push StacksApart ts t p.stacks_apart (each_weaker (StackPlaced used) (λ u. StacksApart u t) (λ u h e.
          let s = h.3 in let n = h.4 in
          elim (beside words used bs ts h.0 z p free h.1) [
            | inl k ↦ omega (arith, k, s, n, e, start)
            | inr k ↦ omega (arith, k, s, size, e, start)
          ]) ts p.stacks_in);
    }

pub blocks_fewer : (words : ℕ) (used : List Allocation) (bs : List Block) (ts : List Task) (test : Block → Bool) → Placed words used bs ts → Placed words used (filter test bs) ts
blocks_fewer words used bs ts test p = record {
  sound = p.sound;
  pages = p.pages;
  blocks_in = each_filter (BlockPlaced used) test bs p.blocks_in;
  blocks_apart = pairs_filter BlocksApart test bs p.blocks_apart;
  stacks_in = p.stacks_in;
  stacks_apart = p.stacks_apart;
}

pub blocks_none : (words : ℕ) (used : List Allocation) (bs : List Block) (ts : List Task) → Placed words used bs ts → Placed words used [] ts
blocks_none words used bs ts p = record {
  sound = p.sound;
  pages = p.pages;
  blocks_in = tt;
  blocks_apart = tt;
  stacks_in = p.stacks_in;
  stacks_apart = p.stacks_apart;
}

pub tasks_fewer : (words : ℕ) (used : List Allocation) (bs : List Block) (ts : List Task) (test : Task → Bool) → Placed words used bs ts → Placed words used bs (filter test ts)
tasks_fewer words used bs ts test p = record {
  sound = p.sound;
  pages = p.pages;
  blocks_in = p.blocks_in;
  blocks_apart = p.blocks_apart;
  stacks_in = each_filter (StackPlaced used) test ts p.stacks_in;
  stacks_apart = pairs_filter StacksApart test ts p.stacks_apart;
}

block_same : (used : List Allocation) (b c : Block) → c.start ≡ b.start → c.size ≡ b.size → BlockPlaced used b → BlockPlaced used c
block_same used b c e f h =
    (h.0, h.1, h.2, (let k = h.3 in omega (arith, e, k)), (let k = h.4 in omega (arith, e, f, k)), elim h.5 [ inl s ↦ inl (e ∙ s) | inr boot ↦ inr boot ], ((h.6.0.0, e ∙ h.6.0.1), subst Words (sym f) h.6.1))

apart_same : (a b c d : Block) → c.start ≡ a.start → c.size ≡ a.size → d.start ≡ b.start → d.size ≡ b.size → BlocksApart a b → BlocksApart c d
apart_same a b c d e f g h (inl k) = inl (omega (arith, e, f, g, h, k))
apart_same a b c d e f g h (inr k) = inr (omega (arith, e, f, g, h, k))

pub blocks_changed : (words : ℕ) (used : List Allocation) (bs : List Block) (ts : List Task) (change : Block → Block) → ((b : Block) → ((change b).start ≡ b.start) × ((change b).size ≡ b.size))
    → Placed words used bs ts → Placed words used (map change bs) ts
blocks_changed words used bs ts change same p = record {
  sound = p.sound;
  pages = p.pages;
  blocks_in = each_map (BlockPlaced used) (BlockPlaced used) change (λ b h. block_same used b (change b) (same b).0 (same b).1 h) bs p.blocks_in;
  blocks_apart = pairs_map BlocksApart BlocksApart change (λ b c h. apart_same b c (change b) (change c) (same b).0 (same b).1 (same c).0 (same c).1 h) bs p.blocks_apart;
  stacks_in = p.stacks_in;
  stacks_apart = p.stacks_apart;
}

pub tasks_changed : (words : ℕ) (used : List Allocation) (bs : List Block) (ts : List Task) (change : Task → Task) → ((t : Task) → (change t).stack ≡ t.stack)
    → Placed words used bs ts → Placed words used bs (map change ts)
tasks_changed words used bs ts change same p = record {
  sound = p.sound;
  pages = p.pages;
  blocks_in = p.blocks_in;
  blocks_apart = p.blocks_apart;
  stacks_in = each_map (StackPlaced used) (StackPlaced used) change (λ t h. (h.0, h.1, h.2, h.3 ∙ sym (same t), h.4)) ts p.stacks_in;
  stacks_apart = pairs_map StacksApart StacksApart change (λ t u h e. h (sym (same t) ∙ e ∙ same u)) ts p.stacks_apart;
}

kept_in : (used : List Allocation) (a : ℕ) (x : Allocation) → In x used → (x.start ≡ a → ⊥) → In x (without_allocation used a)
kept_in used a x i differ = in_filter (λ (x : Allocation). not (x.start == a)) used x i (not_from_false (x.start == a) (ne_eqb x.start a differ))

-- an allocation is given back, in which no block and no stack lies
pub given_back : (words : ℕ) (used : List Allocation) (bs : List Block) (ts : List Task) (a : ℕ)
    → ((b : Block) (x : Allocation) → In b bs → In x used → x.start ≡ a → is_tracked x ≡ true → (b.start ≡ x.start) ⊎ (is_boot x ≡ true) → ⊥)
    → ((t : Task) (x : Allocation) → In t ts → In x used → x.start ≡ a → is_stack x ≡ true → t.stack ≡ a → ⊥)
    → Placed words used bs ts → Placed words (without_allocation used a) bs ts
given_back words used bs ts a no_block no_stack p = record {
  sound = each_filter (Sound words) (λ (x : Allocation). not (x.start == a)) used p.sound;
  pages = pairs_filter PagesApart (λ (x : Allocation). not (x.start == a)) used p.pages;
  blocks_in = in_each (BlockPlaced (without_allocation used a)) bs (λ b i.
      let h = each_in (BlockPlaced used) bs b p.blocks_in i in
      (h.0, kept_in used a h.0 h.1 (λ e. no_block b h.0 i h.1 e h.2 h.5), h.2, h.3, h.4, h.5, h.6));
  blocks_apart = p.blocks_apart;
  stacks_in = in_each (StackPlaced (without_allocation used a)) ts (λ t i.
      let h = each_in (StackPlaced used) ts t p.stacks_in i in
      (h.0, kept_in used a h.0 h.1 (λ e. no_stack t h.0 i h.1 e h.2 (sym h.3 ∙ e)), h.2, h.3, h.4));
  stacks_apart = p.stacks_apart;
}
