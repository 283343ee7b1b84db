use Rattle.std.proofs.Common.{◌≢◌, sym, subst, arith}
use Rattle.block_tag.specs.declared.tag.Tag.{Tag}
use Rattle.buffer_frames.specs.Tokens.{IsPinnedFor}
use Rattle.backend_pass.proofs.Between.{held_none, gives_beside_token, held_released, token_beside, gives_beside_unlocked, gives_beside, gives_one}
use Rattle.manager_tests.proofs.crowding.+hold_first.Goals as goal

pub returns-in_default-clause-first : goal.returns-in_default-clause-first
returns-in_default-clause-first g t c =
    let e = c.in_default.ensures in
    let r = c.release.ensures in
    gives_one {L = g.row.L.Denot} {G = g.row.G.Denot} g.L.BlockLane.contents c.args.manager.now c.args.held.frame c.args.first.now c.read_buffer.new.self c.release.new.self (record { belongs = e.belongs; same = e.same; tokens = e.refused; locks = e.locks }) r.belongs r.same r.tokens r.locks

pub returns-in_default-clause-second : goal.returns-in_default-clause-second
returns-in_default-clause-second g t c = held_none {L = g.row.L.Denot} {G = g.row.G.Denot} g.L.BlockLane.contents c.args.manager.now c.args.second.now c.requires.second

pub returns-then-frame-clause-first : goal.returns-then-frame-clause-first
returns-then-frame-clause-first g t c =
    let e = c.in-Ok.ensures in
    let a = c.release-then-frame.ensures in
    let b = c.release-then-frame-2.ensures in
    gives_one {L = g.row.L.Denot} {G = g.row.G.Denot} g.L.BlockLane.contents c.args.manager.now c.args.held.frame c.args.first.now c.release-then-frame.new.self c.release-then-frame-2.new.self
    (held_released {L = g.row.L.Denot} {G = g.row.G.Denot} g.L.BlockLane.contents c.args.manager.now c.in-Ok.pinned c.args.first.now c.read_buffer.new.self c.release-then-frame.new.self e.same e.locks e.back a.belongs a.same a.tokens a.locks) b.belongs b.same b.tokens b.locks

pub returns-then-frame-clause-second : goal.returns-then-frame-clause-second
returns-then-frame-clause-second g t c = held_none {L = g.row.L.Denot} {G = g.row.G.Denot} g.L.BlockLane.contents c.args.manager.now c.args.second.now c.requires.second

pub hold_first-crowded-requires : goal.hold_first-crowded-requires
hold_first-crowded-requires g t c κs lives =
    let e = c.in-Ok.ensures in
    let apart : c.in-Ok.pinned.frame ≢ c.args.held.frame = λ e. omega (arith, e, c.if-frame.false, c.frame.ensures, c.frame-2.ensures) in
    let held = token_beside c.args.held c.in-Ok.pinned.frame c.args.first.now c.read_buffer.new.self (λ d. apart (sym d)) e.locks e.back c.requires.held in
    (omega (arith, c.decreases, c.if-number-gt7.false), (lives.0, (lives.1.0, (lives.1.1, (e.belongs, (held, (c.requires.second, c.requires.third)))))))

pub release-requires-2-clause-pinned : goal.release-requires-2-clause-pinned
release-requires-2-clause-pinned g t c =
    let e = c.in-Ok.ensures in
    let apart : c.in-Ok.pinned.frame ≢ c.args.held.frame = λ e. omega (arith, e, c.if-frame.false, c.frame.ensures, c.frame-2.ensures) in
    gives_beside_token {L = g.row.L.Denot} {G = g.row.G.Denot} g.L.BlockLane.contents c.args.manager.now c.in-Ok.pinned.tag c.in-Ok.pinned.frame c.args.held.frame c.read_buffer.new.self c.hold_first-crowded.new.first apart c.hold_first-crowded.ensures.first
    (subst (λ (x : Tag). IsPinnedFor x c.in-Ok.pinned.frame c.read_buffer.new.self.tokens) (sym e.tag) e.pinned)

pub release-requires-2-clause-unlocked : goal.release-requires-2-clause-unlocked
release-requires-2-clause-unlocked g t c =
    let apart : c.in-Ok.pinned.frame ≢ c.args.held.frame = λ e. omega (arith, e, c.if-frame.false, c.frame.ensures, c.frame-2.ensures) in
    gives_beside_unlocked {L = g.row.L.Denot} {G = g.row.G.Denot} g.L.BlockLane.contents c.args.manager.now c.in-Ok.pinned.frame c.args.held.frame c.read_buffer.new.self c.hold_first-crowded.new.first apart c.hold_first-crowded.ensures.first c.in-Ok.ensures.last

pub returns-clause-first : goal.returns-clause-first
returns-clause-first g t c =
    let e = c.in-Ok.ensures in
    let r = c.release-2.ensures in
    let apart : c.in-Ok.pinned.frame ≢ c.args.held.frame = λ e. omega (arith, e, c.if-frame.false, c.frame.ensures, c.frame-2.ensures) in
    gives_beside {L = g.row.L.Denot} {G = g.row.G.Denot} g.L.BlockLane.contents c.args.manager.now c.in-Ok.pinned.frame c.args.held.frame c.args.first.now c.read_buffer.new.self c.hold_first-crowded.new.first c.release-2.new.self apart e.same e.locks e.back c.hold_first-crowded.ensures.first r.belongs r.same r.tokens r.locks
