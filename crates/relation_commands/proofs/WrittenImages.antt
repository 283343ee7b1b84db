-- The entries of a rewrite's log as they were written.
use Rattle.std.proofs.Common.{◌≡◌, ℕ, ◌-◌, ◌<◌, ◌≤◌, ◌^◌, true, List, length, unwrap_or, refl, arith}
use Rattle.block_tag.specs.declared.tag.Fork.TheVariants.{Main}
use Rattle.block_tag.specs.Names.{names_block}
use Rattle.command_line.specs.RelationPath.{relation_number}
use Rattle.segment_store.specs.Lanes.{tag_at}
use Rattle.page_layout.specs.Rewritten.{rewritten_page}
use Rattle.page_layout.proofs.Positions.{lsn_of-with_lsn}
use Rattle.pin_core.specs.State.{Page}
use Rattle.history_core.specs.Log.{IsImage, Log, LogLaw, end_of, log_end}
use Rattle.history_core.specs.State.{last_position}
use Rattle.history_core.proofs.Logs.{chain_below}
use Rattle.log_recovery.specs.Laws.{AreWritten, IsListed}
use Rattle.table_rule.proofs.Opens.{length_low}
use Rattle.relation_commands.specs.RecoverFiles.{catalog_of, word_at}
use Rattle.relation_commands.specs.RewriteFiles.{main_rule}
use Rattle.relation_commands.specs.RewriteResults.{HasImages}
use Rattle.relation_commands.specs.Starting.{relation_entry}
use Rattle.relation_commands.proofs.PagesAfter.{StaysUsed, changeable}
use Rattle.relation_commands.proofs.RecoverNames.{small_number}

-- a block of the main fork, of which a log can have an entry
named : (block : ℕ) → block < 2 ^ 32 - 1 → names_block (tag_at Main block) ≡ true
named block below = grind arith

listed_at : (path : List ℕ) (block : ℕ) → block < 2 ^ 32 - 1 → IsListed (catalog_of path) (word_at block)
listed_at path block below = record {
  tag = tag_at Main block;
  is = refl;
  named = named block below;
  relation = relation_entry (record { number = unwrap_or (relation_number path) 0; fork = Main; blocks = 0 });
  listed = refl;
  tablespace = omega arith;
  database = omega arith;
  number = small_number path;
}

-- the images of a relation's pages are entries as a log of whole pages has them
pub images_written : (path : List ℕ) (before : List Page) (log : Log) → LogLaw log → HasImages main_rule before log → log_end log ≤ last_position → length before ≤ 2 ^ 32 - 1
    → AreWritten (catalog_of path) log.entries
images_written path before log law images low few k e at =
    let i = images.each k e at in
    let below = length_low before i.block i.page i.there in
    record {
      word = word_at i.block;
      page = main_rule.rewritten i.page (end_of e);
      is = i.entered;
      listed = listed_at path i.block (omega arith);
      valid = law.valid k e at;
      room = (let end = chain_below log.base log.entries law.chained k e at in omega arith);
    }

-- what the rule makes of a page that it changes is an image that a log can have
pub image_made : StaysUsed → (page : Page) (end : ℕ) → length page ≡ 8192 → main_rule.changes page ≡ true → end ≤ last_position → IsImage end (main_rule.rewritten page end)
image_made rewritten page end long changed low =
    let so = changeable page changed in
    let is = rewritten page end (record { size = long; sound = so.sound; used = so.used }) so.kept in
    record { sound = is.sound; used = is.used; full = is.size; ends = lsn_of-with_lsn end (rewritten_page page) (omega arith) }
