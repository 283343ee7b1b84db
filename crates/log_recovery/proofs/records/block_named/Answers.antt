use Rattle.std.proofs.Common.{◌∙◌, sym, refl, arith}
use Rattle.log_recovery.proofs.Named.{place_named, fork_back}
use Rattle.log_recovery.proofs.records.block_named.Goals as goal

pub returns-in_err-place-clause-none : goal.returns-in_err-place-clause-none
returns-in_err-place-clause-none c = λ is word h. c.in_err-place.ensures.none refl h.tag.rel.0 (place_named _ _ word _ _ _ c.number_in-tablespace.ensures c.number_in-database.ensures c.number_in-relation.ensures h)

pub returns-clause-named : goal.returns-clause-named
returns-clause-named c = let f = c.in_ok-place.ensures.some in record {
  tag = record { rel = record { 0 = c.in_ok-place.place }; fork = c.in_ok-fork.fork; block = c.number_in-block.result };
  is = refl;
  relation = f.relation;
  listed = f.listed;
  tablespace = sym c.number_in-tablespace.ensures ∙ sym f.tablespace_is;
  database = sym c.number_in-database.ensures ∙ sym f.database_is;
  number = sym c.number_in-relation.ensures ∙ sym f.number_is;
  fork = sym c.number_in.ensures ∙ fork_back _ _ (sym c.from_number.ensures ∙ c.in_ok-fork.was);
  block = sym c.number_in-block.ensures;
  low = (let n = c.if-block.false in let fits = c.number_in-block.auto in grind (arith, n, fits));
}
