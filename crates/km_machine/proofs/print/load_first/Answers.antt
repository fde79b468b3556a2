use Rattle.std.proofs.Common.{◌≡◌, ◌<◌, ◌≤◌, ℕ, List, true, ◌++◌, ◌∙◌, ◌+◌, ◌*◌, ◌/◌, length, take, sym, ap, subst, arith, rules}
use Rattle.std.proofs.lemmas.Slice.{take-put_mid}
use Rattle.km_model.specs.Memory.{in_memory, word_at}
use Rattle.km_model.specs.Text.{first_bytes, low_bytes}
use Rattle.km_machine.proofs.Entries.{bytes_more, bytes_of, bytes_to, first_are, word_inside}
use Rattle.km_machine.proofs.print.load_first.Goals as goal

pub loop-i-preserved : goal.loop-i-preserved
loop-i-preserved c =
    let i : ℕ = c.loop-i.i in
    let at : ℕ = c.args.span.start.0 + 8 * i in
    let memory : List ℕ = c.args.words.now in
    let same = c.loop-i.invariant.same in
    let low : i < c.args.span.size / 8 = omega (arith, c.loop-i-test.true, c.min.ensures) in
    let room : 8 * i ≤ length c.loop-i.bytes = search rules in
    record {
      same = c.load-word.ensures.same ∙ same;
      bytes = λ b start size lies.
          let word = c.load-word.ensures.word (subst (λ (m : List ℕ). in_memory (length m) at ≡ true) (sym same) (word_inside (length memory) b i _ _ start size lies c.requires.start low)) in
          let piece = c.copy_from_slice.ensures.after ∙ c.to_le_bytes.ensures ∙ bytes_of c.load-word.result ∙ ap (low_bytes 8) (word ∙ ap (λ (m : List ℕ). word_at m at) same) in
          take-put_mid (8 * i) _ c.loop-i.bytes _ (8 * (i + 1)) (omega (arith, ap length piece)) room
          ∙ ap (λ xs. xs ++ c.copy_from_slice.new.self) (c.loop-i.invariant.bytes b start size lies)
          ∙ ap (λ xs. bytes_to memory b i ++ xs) piece
          ∙ sym (bytes_more memory b i _ start (omega (arith, low, size)));
    }

pub returns-clause-bytes : goal.returns-clause-bytes
returns-clause-bytes c = λ b start size lies.
    let all : c.loop-i.i ≡ c.min.result / 8 = omega (arith, c.loop-i-test.false, c.loop-i.auto.i-end) in
    subst (λ n. take (8 * n) c.loop-i.bytes ≡ first_bytes c.args.words.now b) all
    (first_are c.args.words.now c.loop-i.bytes b c.loop-i.i (omega (arith, size, c.requires.size)) (omega (arith, all, c.min.ensures, size)) (c.loop-i.invariant.bytes b start size lies))
