use Rattle.std.proofs.Common.{refl}
use Rattle.block_lists.proofs.FirstNumber.{if_none, none_there, none_without}
use Rattle.block_lists.proofs.reading.take_number.Goals as goal

pub returns-in_err-place-clause-none : goal.returns-in_err-place-clause-none
returns-in_err-place-clause-none c = if_none _ (none_without c.args.end c.args.text.now c.in_err-place.ensures.none)

pub returns-in_err-number-clause-none : goal.returns-in_err-number-clause-none
returns-in_err-number-clause-none c =
    if_none _ (none_there c.requires c.in_ok-place.ensures.some _ refl c.in_err-number.ensures.none)
