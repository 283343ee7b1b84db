use Rattle.std.proofs.Common.{◌≤◌, length, Ok, rules}
use Rattle.atomic_table.proofs.Lists.{at_index}
use Rattle.page_jobs.proofs.Texts.{any_end, stopper_none, stopper_there}
use Rattle.page_jobs.proofs.puts.end_of_stopper.Goals as goal

pub returns-in-Some-get-clause-stopper : goal.returns-in-Some-get-clause-stopper
returns-in-Some-get-clause-stopper g c =
    let w = c.in-Some-get.worker.now in
    let found = c.in-Some-get.ensures.lookup.3 in
    stopper_there c.args.workers.now c.args.stopped_by c.in-Some.number w c.in-Some.is (at_index c.args.workers.now c.in-Some.number w found.0 (found.1 w))

pub returns-in-Some-get-clause-cause : goal.returns-in-Some-get-clause-cause
returns-in-Some-get-clause-cause g c =
    let w = c.in-Some-get.worker.now in
    let found = c.in-Some-get.ensures.lookup.3 in
    any_end c.args.workers.now c.in-Some.number w (at_index c.args.workers.now c.in-Some.number w found.0 (found.1 w))

pub returns-in-None-get-clause-stopper : goal.returns-in-None-get-clause-stopper
returns-in-None-get-clause-stopper g c =
    let past : length c.args.workers.now ≤ c.in-Some.number = search rules in
    stopper_none c.args.workers.now c.args.stopped_by c.in-Some.number (Ok tt) c.in-Some.is past
