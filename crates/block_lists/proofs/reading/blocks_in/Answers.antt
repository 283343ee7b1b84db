use Rattle.std.proofs.Common.{◌≡◌, ◌<◌, ◌+◌, ◌∙◌, ◌++◌, ◌∷◌, [], List, ℕ, ap, append-nil, le_trans, length, rules}
use Rattle.std.proofs.lemmas.List.{nil_from_length}
use Rattle.std.proofs.lemmas.List.Elements.{All-push}
use Rattle.block_lists.specs.Lists.{AreBlockNumbers, list_text}
use Rattle.block_lists.proofs.Blocks.{shorter}
use Rattle.block_lists.proofs.Listed.{blocks_few, first_bad, one_more}
use Rattle.block_lists.proofs.reading.blocks_in.Goals as goal

pub returns-in_default-clause-refused : goal.returns-in_default-clause-refused
returns-in_default-clause-refused c =
    let some : 0 < length c.loop-rest.rest.now = search rules in
    let line : c.len.result + 1 ≡ length c.loop-rest.listed.items + 1 = search rules in
    (c.requires, first_bad c.loop-rest.listed.items c.args.text.now c.loop-rest.rest.now c.loop-rest.invariant.good c.loop-rest.invariant.read some c.in_default.ensures.none (c.len.result + 1) line)

pub loop-rest-smaller : goal.loop-rest-smaller
loop-rest-smaller c = shorter c.in-Some.found.0 c.loop-rest.rest.now c.in-Some.found.1.now c.in-Some.ensures.some.spelled

pub loop-rest-preserved : goal.loop-rest-preserved
loop-rest-preserved c =
    let items : c.push.new.self.items ≡ c.loop-rest.listed.items ++ (c.in-Some.found.0 ∷ []) = search rules in
    record {
      good = rw items (All-push AreBlockNumbers c.loop-rest.listed.items c.in-Some.found.0 c.loop-rest.invariant.good c.in-Some.ensures.some.good);
      read = rw items (one_more c.loop-rest.listed.items c.args.text.now c.loop-rest.invariant.read c.in-Some.ensures.some);
    }

pub returns-clause-read : goal.returns-clause-read
returns-clause-read c =
    let none : length c.loop-rest.rest.now ≡ 0 = search rules in
    let empty : c.loop-rest.rest.now ≡ [] = nil_from_length c.loop-rest.rest.now none in
    record {
      few = le_trans (blocks_few c.loop-rest.listed.items c.args.text.now c.loop-rest.rest.now c.loop-rest.invariant.good c.loop-rest.invariant.read) c.requires;
      good = c.loop-rest.invariant.good;
      written = c.loop-rest.invariant.read ∙ ap (λ (l : List ℕ). list_text c.loop-rest.listed.items ++ l) empty ∙ append-nil (list_text c.loop-rest.listed.items);
    }
