use Rattle.std.proofs.Common.{◌≡◌, ◌∷◌, ◌++◌, sym, ap, subst, ◌∙◌, decimal}
use Rattle.km_base.specs.declared.acts.Act.{Act}
use Rattle.km_base.specs.Digits.{hex}
use Rattle.km_entries.specs.Lines.{reg_number}
use Rattle.km_journal_text.specs.Events.{after_spaces, operands_of}
use Rattle.km_journal_text.proofs.Parts.{both_put}
use Rattle.km_journal_text.proofs.events.push_operands.Goals as goal

pub returns-in-Store-clause-text : goal.returns-in-Store-clause-text
returns-in-Store-clause-text c =
    let old = c.args.out.now in
    subst (λ (x : Act). c.push_address-in-Store-2.new.out ≡ old ++ after_spaces (operands_of x)) (sym c.in-Store.is)
    (both_put old (hex c.in-Store.addr) (hex c.in-Store.value) _ _ c.push_address-in-Store.ensures.text c.push_address-in-Store-2.ensures.text)

pub returns-in-SetReg-clause-text : goal.returns-in-SetReg-clause-text
returns-in-SetReg-clause-text c =
    let old = c.args.out.now in
    let number = c.push_number.ensures.text ∙ ap (λ n. old ++ 32 ∷ decimal n) c.number_of.ensures in
    subst (λ (x : Act). c.push_address.new.out ≡ old ++ after_spaces (operands_of x)) (sym c.in-SetReg.is)
    (both_put old (decimal (reg_number c.in-SetReg.reg)) (hex c.in-SetReg.value) _ _ number c.push_address.ensures.text)

pub returns-in-Load-clause-text : goal.returns-in-Load-clause-text
returns-in-Load-clause-text c =
    let old = c.args.out.now in
    let number = c.push_number-in-Load.ensures.text ∙ ap (λ n. old ++ 32 ∷ decimal n) c.number_of-in-Load.ensures in
    subst (λ (x : Act). c.push_address-in-Load.new.out ≡ old ++ after_spaces (operands_of x)) (sym c.in-Load.is)
    (both_put old (decimal (reg_number c.in-Load.reg)) (hex c.in-Load.addr) _ _ number c.push_address-in-Load.ensures.text)

pub returns-in-FreePart-clause-text : goal.returns-in-FreePart-clause-text
returns-in-FreePart-clause-text c =
    let old = c.args.out.now in
    subst (λ (x : Act). c.push_number-in-FreePart.new.out ≡ old ++ after_spaces (operands_of x)) (sym c.in-FreePart.is)
    (both_put old (hex c.in-FreePart.addr) (decimal c.in-FreePart.size) _ _ c.push_address-in-FreePart.ensures.text c.push_number-in-FreePart.ensures.text)

pub returns-in-ScanArea-clause-text : goal.returns-in-ScanArea-clause-text
returns-in-ScanArea-clause-text c =
    let old = c.args.out.now in
    subst (λ (x : Act). c.push_number-in-ScanArea.new.out ≡ old ++ after_spaces (operands_of x)) (sym c.in-ScanArea.is)
    (both_put old (hex c.in-ScanArea.addr) (decimal c.in-ScanArea.size) _ _ c.push_address-in-ScanArea.ensures.text c.push_number-in-ScanArea.ensures.text)
