use Rattle.std.proofs.lemmas.Result.{err_from_is_err_and}
use Rattle.page_jobs.proofs.Texts.{end_none}
use Rattle.page_jobs.proofs.puts.put_end.Goals as goal

pub returns-in_err-worked-clause-text : goal.returns-in_err-worked-clause-text
returns-in_err-worked-clause-text g c =
    let p = err_from_is_err_and c.from_residual.result c.from_residual.ensures.1 in
    rw p.1 (end_none _ c.args.worked c.args.beside_end c.args.totals (g.O.Sink.bytes c.args.out.now) p.0)

pub returns-in_err-beside_end-clause-text : goal.returns-in_err-beside_end-clause-text
returns-in_err-beside_end-clause-text g c =
    let p = err_from_is_err_and c.from_residual-in_err-beside_end.result c.from_residual-in_err-beside_end.ensures.1 in
    rw p.1 (end_none _ c.args.worked c.args.beside_end c.args.totals (g.O.Sink.bytes c.args.out.now) p.0)
