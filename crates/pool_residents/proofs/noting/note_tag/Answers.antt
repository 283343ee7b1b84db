use Rattle.pool_residents.proofs.Notes.{blocks_more}
use Rattle.pool_residents.proofs.noting.note_tag.Goals as goal

pub returns-in-Some-clause-blocks : goal.returns-in-Some-clause-blocks
returns-in-Some-clause-blocks c = λ relations block all. blocks_more relations c.args.tags.now.items c.push_reserved.new.self.items c.in-Some.tag c.args.seen.tag c.in-Some.ensures.some.0 c.push_reserved.ensures.items block all
