use Rattle.std.proofs.Common.{refl, sym, ap, arith}
use Rattle.km_tasks.specs.Roll.{Roll}
use Rattle.km_core.specs.declared.settings.Settings.{Settings}
use Rattle.km_core.proofs.kernel.Kernel.boot.Goals as goal

pub returns-clause-stands : goal.returns-clause-stands
returns-clause-stands g c =
    let hosts = c.in_ok-new.ensures in
    let objects = c.in_ok-new-2.ensures in
    record {
      hosts = record {
        memory = refl;
        held = hosts.held;
        started = ap (λ (r : Roll). r.started) (sym hosts.roll);
        tasks = ap (λ (r : Roll). r.tasks) (sym hosts.roll);
        settings = sym (c.new-3.ensures c.args.words);
      };
      objects = objects.state c.args.words;
    }

pub returns-clause-whole : goal.returns-clause-whole
returns-clause-whole g c =
    let hosts = c.in_ok-new.ensures in
    let objects = c.in_ok-new-2.ensures in
    let memory = c.requires.memory in
    let low = memory.0 in let high = memory.1 in let even = memory.2 in
    let pages = hosts.pages in let room = objects.places in
    let now = ap (λ (q : Settings). q.now) (c.new-3.ensures c.args.words) in
    let period = ap (λ (q : Settings). q.period) (c.new-3.ensures c.args.words) in
    record {
      memory = memory;
      pages = omega (arith, pages, even, high);
      agree = objects.agree c.in_ok-new.field-0.roll;
      places = omega (arith, room, high);
      now = omega (arith, now);
      period = omega (arith, period);
    }
