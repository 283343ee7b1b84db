-- A page is put.
use Rattle.std.proofs.Common.{◌≡◌, ◌≢◌, ℕ, List, [], ◌∷◌, ◌++◌, append-nil, get_or, Bool, Option, Some, None, Err, refl, sym, ap, ◌∙◌, subst, true, false, arith}
use Rattle.std.specs.Prelude.{option_map, if◌then◌else◌}
use Rattle.block_tag.specs.declared.catalogue.RelEntry.{RelEntry}
use Rattle.block_tag.specs.declared.tag.Tag.{Tag}
use Rattle.block_tag.specs.Names.{names_block, packed_tag}
use Rattle.page_layout.specs.Fields.{with_lsn}
use Rattle.page_layout.specs.Soundness.{is_new_page, is_sound_page}
use Rattle.pin_core.specs.declared.view.Call.TheVariants.{Write}
use Rattle.pin_core.specs.declared.view.Content.TheVariants.{Exclusive}
use Rattle.pin_core.specs.declared.view.DeviceCall.TheVariants.{LogAppend}
use Rattle.pin_core.specs.declared.view.Link.{Link}
use Rattle.pin_core.specs.declared.view.TornRecord.{TornRecord}
use Rattle.pin_core.specs.declared.view.View.{View}
use Rattle.pin_core.specs.State.{Page, idle, link}
use Rattle.history_core.specs.Log.{image_record}
use Rattle.page_core.specs.Kinds as kinds
use Rattle.page_core.specs.Kinds.{copied_after}
use Rattle.table_rule.specs.Blocks.{has_block}
use Rattle.frame_table.specs.Content.{dirtied_link}
use Rattle.frame_table.specs.Entering.{entered_link}
use Rattle.frame_table.specs.FrameSteps.{Tried}
use Rattle.frame_table.specs.Kinds.{pages}
use Rattle.frame_table.specs.PageWork.{applied_link, by_input, overwriting, page_out_link, read_home, returned_link}
use Rattle.frame_table.specs.Seats.{Looked, MarksDirty, OnlyRises, SameMarks, Touches, ViewMarks}
use Rattle.wal_flush.specs.declared.inserts.InsertError.{InsertError}
use Rattle.wal_flush.specs.declared.inserts.InsertError.TheVariants.{LogFull, LogDown, LogFault}
use Rattle.wal_flush.specs.Inserts.{AddsTorn, CanInsert, InsertRefused, Inserts, InsertSeesEnd, inserted_view, refused_view}
use Rattle.wal_flush.specs.Latched.{as_counted}
use Rattle.buffer_frames.specs.Rests.{HasNoDevice, LinkRests, LinksRest}
use Rattle.buffer_frames.specs.Tokens.{HeldFrame, IsPinnedFor, Tokens, held_at}
use Rattle.frame_table.proofs.Rising.{rises_on, rises_touched}
use Rattle.buffer_frames.proofs.Keeping.{beside, beside_kept, devices_same, devices_touched, link_looked, links_same, rests_with}
use Rattle.buffer_frames.specs.Working.{Made}
use Rattle.buffer_frames.specs.Puts.{AppliesImage, DidPut, PutRefused, PutsAt, PutsPage, RefusalShows, kept_by_puts, met_put, put_calls}

-- what steps keep of a view
pub puts_on : (f : ℕ) (v u w : View) → PutsAt f v u → PutsAt f u w → PutsAt f v w
puts_on f v u w a b = record { kept = b.kept ∙ a.kept; advances = rises_on v u w a.advances b.advances; partitions = b.partitions ∙ a.partitions; others = λ g n. b.others g n ∙ a.others g n }

pub puts_touched : (f : ℕ) (v w : View) → Touches f v w → PutsAt f v w
puts_touched f v w t = record { kept = ap kept_by_puts t.self; advances = rises_touched f v w t; partitions = t.partitions; others = t.others }

-- what an insert keeps
pub puts_inserted : (f tag : ℕ) (p : Page) (lsn : ℕ) (v w : View) → w ≡ as_counted (inserted_view f tag p lsn v) w → OnlyRises v w → ((g : ℕ) → g ≢ f → link w g ≡ link v g) → PutsAt f v w
puts_inserted f tag p lsn v w e rises others = record {
  kept = ap kept_by_puts e;
  advances = rises;
  partitions = ap (λ (x : View). x.partitions) e;
  others = others;
}

-- a view with these fields of another
pub record RefusedKeeps (v w : View) : Type 0 where
  pub kept : kept_by_puts w ≡ kept_by_puts v
  pub lanes : w.lanes ≡ v.lanes
  pub sizes : w.sizes ≡ v.sizes
  pub flushed : w.flushed ≡ v.flushed
  pub partitions : w.partitions ≡ v.partitions
  pub links : w.links ≡ v.links
  pub calls : w.calls ≡ v.calls
  pub front : w.front ≡ v.front
  pub marked : w.dirtied_or_synced ≡ v.dirtied_or_synced
  pub emptied : w.emptied ≡ v.emptied
  pub log : w.log ≡ v.log

refused_keeps_of : (u v w : View) → w ≡ as_counted u w → kept_by_puts u ≡ kept_by_puts v → u.lanes ≡ v.lanes → u.sizes ≡ v.sizes → u.flushed ≡ v.flushed → u.partitions ≡ v.partitions → u.links ≡ v.links → u.calls ≡ v.calls → u.front ≡ v.front → u.dirtied_or_synced ≡ v.dirtied_or_synced → u.emptied ≡ v.emptied → u.log ≡ v.log → RefusedKeeps v w
refused_keeps_of u v w e kept lanes sizes flushed partitions links calls front marked emptied log = record {
  kept = ap kept_by_puts e ∙ kept;
  lanes = ap (λ (x : View). x.lanes) e ∙ lanes;
  sizes = ap (λ (x : View). x.sizes) e ∙ sizes;
  flushed = ap (λ (x : View). x.flushed) e ∙ flushed;
  partitions = ap (λ (x : View). x.partitions) e ∙ partitions;
  links = ap (λ (x : View). x.links) e ∙ links;
  calls = ap (λ (x : View). x.calls) e ∙ calls;
  front = ap (λ (x : View). x.front) e ∙ front;
  marked = ap (λ (x : View). x.dirtied_or_synced) e ∙ marked;
  emptied = ap (λ (x : View). x.emptied) e ∙ emptied;
  log = ap (λ (x : View). x.log) e ∙ log;
}

pub refused_keeps : (why : InsertError) (v w : View) → w ≡ as_counted (refused_view why v) w → RefusedKeeps v w
refused_keeps (LogFull end) v w e = refused_keeps_of v v w e refl refl refl refl refl refl refl refl refl refl refl
refused_keeps (LogDown at) v w e = refused_keeps_of (refused_view (LogDown at) v) v w e refl refl refl refl refl refl refl refl refl refl refl
refused_keeps LogFault v w e = refused_keeps_of (refused_view LogFault v) v w e refl refl refl refl refl refl refl refl refl refl refl

pub puts_refused : (why : InsertError) (f : ℕ) (v w : View) → w ≡ as_counted (refused_view why v) w → OnlyRises v w → PutsAt f v w
puts_refused why f v w e rises = let r = refused_keeps why v w e in record {
  kept = r.kept;
  advances = rises;
  partitions = r.partitions;
  others = λ g n. ap (λ (l : List Link). get_or l g idle) r.links;
}

-- the image becomes the page
pub returned_applied : (page taken : Page) (l m n : Link) → m ≡ page_out_link taken l → n ≡ returned_link page m → l.unapplied ≡ true → n ≡ applied_link page (record l { out = None })
returned_applied page taken l m n out back e = back ∙ ap (returned_link page) out ∙ ap (λ (b : Bool). if b then applied_link page (record l { out = None }) else read_home l.io l.read (record l { out = None; copied = copied_after l.content false page l.copied })) e

pub overwrites_logged : (l : Link) → l.unapplied ≡ true → overwriting l ≡ Some kinds.overwrite_logged
overwrites_logged l e = ap (λ (b : Bool). if b then Some kinds.overwrite_logged else by_input l.io l.read) e

-- a frame between two calls that is marked dirty, and one whose entry was made and applied
marked_rests : (o : Option HeldFrame) (l : Link) → LinkRests o l → LinkRests o (dirtied_link l)
marked_rests o l r = let c = r.calm in record {
  calm = record { no_header = c.no_header; assigned = c.assigned; no_copy = c.no_copy; applied = c.applied; no_io = c.no_io; page_home = c.page_home; no_wait = c.no_wait };
  role = r.role;
  tag = r.tag;
  seen = r.seen;
  unlocked = r.unlocked;
}

applied_rests : (o : Option HeldFrame) (p page : Page) (l m n : Link) → m ≡ entered_link p l → n ≡ applied_link page (record m { out = None }) → LinkRests o l → LinkRests o n
applied_rests o p page l m n e f r = subst (LinkRests o) (sym (f ∙ ap (λ (x : Link). applied_link page (record x { out = None })) e)) (let c = r.calm in record {
  calm = record { no_header = c.no_header; assigned = c.assigned; no_copy = c.no_copy; applied = refl; no_io = c.no_io; page_home = refl; no_wait = c.no_wait };
  role = r.role;
  tag = r.tag;
  seen = r.seen;
  unlocked = r.unlocked;
})

-- what a refusal shows
refusal_shows : (relations : List RelEntry) (f : ℕ) (tag : Tag) (p : Page) (why : InsertError) (u w : View) → w ≡ as_counted (refused_view why u) w → InsertRefused relations f tag p u w why → InsertSeesEnd why u w → RefusalShows why w
refusal_shows relations f tag p (LogFull end) u w e (at, r) s = let full = r.work.1 in let same = r.work.0 in (omega arith, s.1)
refusal_shows relations f tag p (LogDown at) u w e r s = (ap (λ (y : View). y.saw_down) e, s.1)
refusal_shows relations f tag p LogFault u w e r s = ap (λ (y : View). y.saw_down) e

-- The frame f was marked dirty
pub record MarkedFrameDirty (f : ℕ) (v u : View) : Type 0 where
  pub touches : Touches f v u
  pub marks : MarksDirty v u
  pub dirtied : Looked (dirtied_link (link v f)) (link u f)
  pub did : Tried (pages kinds.mark_dirty) f v u true

module _ (f : ℕ) (t : Tokens) (v u : View) (m : MarkedFrameDirty f v u) where
  pub rests_marked : LinksRest t v → LinksRest t u
  rests_marked r = rests_with f t u (beside_kept f t v u m.touches.others (beside f t v r)) (link_looked (held_at t f) (dirtied_link (link v f)) (link u f) m.dirtied (marked_rests (held_at t f) (link v f) (r f)))

  pub right_marked : (link v f).content ≡ Exclusive → (link u f).content ≡ Exclusive
  right_marked e = m.dirtied.content ∙ e

  pub has_marked : u.dirtied_or_synced ≡ true
  has_marked = ap (λ (x : ViewMarks). x.dirtied_or_synced) m.marks

  pub can_insert : (relations : List RelEntry) (tag : Tag) (p : Page) → names_block tag ≡ true → has_block relations tag ≡ true → IsPinnedFor tag f t → LinksRest t v → (link v f).content ≡ Exclusive → is_sound_page p ≡ true → is_new_page p ≡ false → CanInsert relations f tag p u
  can_insert relations tag p named listed i r right sound used = record {
    named = named;
    listed = listed;
    remembered = (rests_marked r f).tag ∙ ap (option_map HeldFrame.tag) i.there ∙ ap Some i.same;
    right = right_marked right;
    dirtied = m.dirtied.dirtied;
    applied = λ g. (rests_marked r g).calm.applied;
    sound = sound;
    used = used;
  }

  -- and then the page p was entered, which made the view x
  module _ (x : View) (relations : List RelEntry) (tag : Tag) (p : Page) (lsn : ℕ) (e : x ≡ as_counted (inserted_view f (packed_tag tag) p lsn u) x) (rises : OnlyRises u x) (did : Inserts relations f tag p lsn u x)
      (here : link x f ≡ entered_link p (link u f)) (others : (g : ℕ) → g ≢ f → link x g ≡ link u g) where
    pub device_inserted : HasNoDevice v → HasNoDevice x
    device_inserted d = devices_same u x (ap (λ (y : View). y.emptied) e) (ap (λ (y : View). y.lanes) e) (ap (λ (y : View). y.sizes) e) (ap (λ (y : View). y.log) e) (devices_touched f v u m.touches d)

    puts_entered : PutsAt f v x
    puts_entered = puts_on f v u x (puts_touched f v u m.touches) (puts_inserted f (packed_tag tag) p lsn u x e rises others)

    -- and became the frame's page, which made the view w
    module _ (w : View) (touches : Touches f x w) (marks : SameMarks x w) (applied : link w f ≡ applied_link p (record (link x f) { out = None })) where
      pub device_put : HasNoDevice v → HasNoDevice w
      device_put d = devices_touched f x w touches (device_inserted d)

      pub puts_all : PutsAt f v w
      puts_all = puts_on f v x w puts_entered (puts_touched f x w touches)

      pub rests_put : LinksRest t v → LinksRest t w
      rests_put r = let s = rests_marked r in
          rests_with f t w (beside_kept f t u w (λ g n. touches.others g n ∙ others g n) (beside f t u s)) (applied_rests (held_at t f) p p (link u f) (link x f) (link w f) here applied (s f))

      pub right_put : (link v f).content ≡ Exclusive → (link w f).content ≡ Exclusive
      right_put right = ap (λ (l : Link). l.content) applied ∙ ap (λ (l : Link). l.content) here ∙ right_marked right

      pub marked_put : w.dirtied_or_synced ≡ true
      marked_put = ap (λ (y : ViewMarks). y.dirtied_or_synced) marks ∙ ap (λ (y : View). y.dirtied_or_synced) e ∙ has_marked

      pub calls_put : w.device_calls ≡ v.device_calls ++ LogAppend true ∷ []
      calls_put = ap (λ (y : View). y.device_calls) touches.self ∙ ap (λ (y : View). y.device_calls) e ∙ ap (λ (y : View). y.device_calls ++ LogAppend true ∷ []) m.touches.self

      pub met_all : w.met ≡ v.met
      met_all = ap (λ (y : View). y.met) touches.self ∙ ap (λ (y : View). y.met) e ∙ ap (λ (y : View). y.met) m.touches.self

      pub torn_put : x.torn ≡ u.torn → w.torn ≡ v.torn
      torn_put same = ap (λ (y : View). y.torn) touches.self ∙ same ∙ ap (λ (y : View). y.torn) m.touches.self

      pub puts_done : (page : Page) → p ≡ with_lsn lsn page → AppliesImage f p x w → DidPut relations f tag page lsn v w
      puts_done page is applies = record {
        work = subst (λ (q : Page). PutsPage relations f tag q lsn v w) is record { marked = u; entered = x; marks = m.did; inserts = did; applies = applies };
        calls = subst (λ (q : Page). w.calls ≡ v.calls ++ Write v.number (packed_tag tag) q lsn image_record ∷ []) is
            (ap (λ (y : View). y.calls) touches.self ∙ ap (λ (y : View). y.calls) e ∙ ap (λ (y : View). y.calls ++ Write y.number (packed_tag tag) p lsn image_record ∷ []) m.touches.self);
        front = ap (λ (y : View). y.front) touches.self ∙ ap (λ (y : View). y.front) e;
        later = let start = did.later in let ends = did.ends in let front = ap (λ (y : View). y.front) m.touches.self in omega arith;
      }

  -- or it was refused
  module _ (w : View) (why : InsertError) (e : w ≡ as_counted (refused_view why u) w) (rises : OnlyRises u w) where
    pub device_refused : HasNoDevice v → HasNoDevice w
    device_refused d = let r = refused_keeps why u w e in devices_same u w r.emptied r.lanes r.sizes r.log (devices_touched f v u m.touches d)

    pub rests_refused : LinksRest t v → LinksRest t w
    rests_refused r = links_same t u w (refused_keeps why u w e).links (rests_marked r)

    pub right_refused : (link v f).content ≡ Exclusive → (link w f).content ≡ Exclusive
    right_refused right = ap (λ (l : List Link). (get_or l f idle).content) (refused_keeps why u w e).links ∙ right_marked right

    pub marked_refused : w.dirtied_or_synced ≡ true
    marked_refused = (refused_keeps why u w e).marked ∙ has_marked

    pub puts_none : PutsAt f v w
    puts_none = puts_on f v u w (puts_touched f v u m.touches) (puts_refused why f u w e rises)

    pub torn_not_put : (tag : ℕ) (page : Page) → AddsTorn tag page (Err why) u.torn w.torn → AddsTorn tag page (Err why) v.torn w.torn
    torn_not_put tag page = subst (λ (l : List TornRecord). AddsTorn tag page (Err why) l w.torn) (ap (λ (y : View). y.torn) m.touches.self)

    pub put_refused : (relations : List RelEntry) (tag : Tag) (p : Page) → InsertRefused relations f tag p u w why → InsertSeesEnd why u w → PutRefused relations f tag p why v w
    put_refused relations tag p r s = let k = refused_keeps why u w e in record {
      marked = u;
      marks = m.did;
      refused = r;
      links = k.links;
      calls = k.calls ∙ ap (λ (y : View). y.calls) m.touches.self;
      front = k.front ∙ ap (λ (y : View). y.front) m.touches.self;
      shows = refusal_shows relations f tag p why u w e r s;
    }

refusal_calls : (why : InsertError) (u w : View) → w ≡ as_counted (refused_view why u) w → Made (put_calls (Err why)) u w
refusal_calls (LogFull end) u w e = ap (λ (y : View). y.device_calls) e ∙ sym (append-nil u.device_calls)
refusal_calls (LogDown at) u w e = ap (λ (y : View). y.device_calls) e ∙ sym (append-nil u.device_calls)
refusal_calls LogFault u w e = ap (λ (y : View). y.device_calls) e

refusal_met : (why : InsertError) (u w : View) → w ≡ as_counted (refused_view why u) w → w.met ≡ met_put (Err why) u.met
refusal_met (LogFull end) u w e = ap (λ (y : View). y.met) e
refusal_met (LogDown at) u w e = ap (λ (y : View). y.met) e
refusal_met LogFault u w e = ap (λ (y : View). y.met) e

pub calls_not_put : (f : ℕ) (v u w : View) (why : InsertError) → Touches f v u → w ≡ as_counted (refused_view why u) w → Made (put_calls (Err why)) v w
calls_not_put f v u w why t e = refusal_calls why u w e ∙ ap (λ (y : View). y.device_calls ++ put_calls (Err why)) t.self

pub met_not_put : (f : ℕ) (v u w : View) (why : InsertError) → Touches f v u → w ≡ as_counted (refused_view why u) w → w.met ≡ met_put (Err why) v.met
met_not_put f v u w why t e = refusal_met why u w e ∙ ap (λ (y : View). met_put (Err why) y.met) t.self
