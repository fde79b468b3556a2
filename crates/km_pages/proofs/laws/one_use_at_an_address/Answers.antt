use Rattle.std.proofs.Common.{get_or}
use Rattle.km_pages.proofs.Beside.{one_use}
use Rattle.km_pages.proofs.laws.one_use_at_an_address.Goals as goal

pub returns : goal.returns
returns c = λ pages used laid i d lt j e less. one_use pages (get_or used i d) (get_or used j e) (laid.each i d lt) (laid.each j e less)
