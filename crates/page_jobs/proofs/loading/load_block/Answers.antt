use Rattle.std.proofs.Common.{◌∙◌, ℕ, subst, sym}
use Rattle.io_counts.specs.Found.{FoundMore}
use Rattle.io_counts.proofs.Found.{found_same}
use Rattle.page_jobs.proofs.Blocks.{finds_unsound}
use Rattle.page_jobs.proofs.FoundReads.{found_unsound}
use Rattle.page_jobs.proofs.LoadedBlocks.{takes_pinned, takes_unsound}
use Rattle.page_jobs.proofs.loading.load_block.Goals as goal

pub returns-in-Ok : goal.returns-in-Ok
returns-in-Ok g c =
    let x = c.release.ensures in record {
      loads = (
        takes_pinned {L = g.row.L.Denot} {G = g.row.G.Denot} g.L.BlockLane.contents c.args.manager.now c.args.tag c.in-Ok.pinned c.args.pass.now c.pin_with_retries.new.pass c.release.new.self
            c.in-Ok.ensures.pinned x.belongs x.same x.mark x.locks x.calls x.devices x.tokens x.resident,
        found_same 1 c.args.pass.now.io c.pin_with_retries.new.pass.io c.release.new.self.io c.in-Ok.ensures.found x.devices.io,
      );
    }

pub returns-in-Some : goal.returns-in-Some
returns-in-Some g c = record { loads = record { why = c.in-Err.why; fault = sym c.fault_of.ensures ∙ c.in-Some.is; refuses = c.in-Err.ensures.refused } }

pub returns : goal.returns
returns g c =
    let none = sym c.fault_of.ensures ∙ c.in-None.is in record {
      loads = (
        takes_unsound {L = g.row.L.Denot} {G = g.row.G.Denot} g.L.BlockLane.contents c.args.manager.now c.args.tag c.args.pass.now c.pin_with_retries.new.pass
            (finds_unsound {L = g.row.L.Denot} {G = g.row.G.Denot} g.L.BlockLane.contents c.args.manager.now c.args.tag c.args.pass.now c.pin_with_retries.new.pass c.in-Err.why c.in-Err.ensures.refused none),
        subst (λ (n : ℕ). FoundMore n c.args.pass.now.io c.pin_with_retries.new.pass.io) (found_unsound c.in-Err.why c.in-Err.ensures.refused.once none) c.in-Err.ensures.found,
      );
    }
