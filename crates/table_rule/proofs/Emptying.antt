-- Values are taken out of the slots of a closed table, the last one first.
use Rattle.std.proofs.Common.{◌≡◌, ℕ, zero, suc, ◌+◌, ◌-◌, ◌<◌, ◌≤◌, Bool, true, false, List, [], ◌∷◌, ◌++◌, take, reverse, length, get_or, set, get_or-set_same, get_or-set_other, length-append, append_assoc, sym, refl, ap, ◌∙◌, subst, arith}
use Rattle.std.proofs.lemmas.List.{append-nil, take_all}
use Rattle.std.specs.Prelude.{Vec, vec_capacity}
use Rattle.std.specs.Global.{Global}
use mathlib.Core.Logic.{dite}
use mathlib.Core.Option.{some, some-injective, some-ne-none}
use native.Mathlib.Decide.{ℕ_discrete}
use lib.ListN.{get_elem?}
use Rattle.table_rule.specs.declared.noted_lane.NotedLane.{NotedLane}
use Rattle.table_rule.specs.declared.noted_log.NotedLog.{NotedLog}
use Rattle.table_rule.specs.declared.value.Value.{Value}
use Rattle.table_rule.specs.declared.value.Value.TheVariants as value
use Rattle.table_rule.specs.Laid.{lanes_among, HasNoDevices, EndsWith}
use Rattle.table_rule.proofs.Laying.{lanes_append, plain_left, plain_right, took_plain, took_lane, lane_room, lanes_before, snoc_same}
use Rattle.table_rule.proofs.Opens.{left_at, right_at}

module _ {A : Type 0} where
  -- one more of the first items of a list
  pub take_more : (l : List A) (i j : ℕ) (y : A) → j ≡ i + 1 → get_elem? l i ≡ some y → take j l ≡ take i l ++ y ∷ []
  take_more [] i j y is e = absurd (some-ne-none y (sym e))
  take_more (x ∷ l) i zero y is e = absurd (omega arith)
  take_more (x ∷ l) zero (suc zero) y is e = ap (λ (z : A). z ∷ []) (some-injective x y e)
  take_more (x ∷ l) zero (suc (suc j)) y is e = absurd (omega arith)
  take_more (x ∷ l) (suc i) (suc j) y is e = ap (λ (z : List A). x ∷ z) (take_more l i j y (omega arith) e)

  -- one place has one item
  pub same_item : (l : List A) (i j : ℕ) (x y : A) → i ≡ j → get_elem? l i ≡ some x → get_elem? l j ≡ some y → x ≡ y
  same_item l i j x y is a b = some-injective x y (sym a ∙ ap (get_elem? l) is ∙ b)

  -- the first of two lists
  pub take_first : (l m : List A) (n : ℕ) → length l ≡ n → take n (l ++ m) ≡ l
  take_first [] [] zero e = refl
  take_first [] (x ∷ m) zero e = refl
  take_first [] m (suc n) e = absurd (omega arith)
  take_first (x ∷ l) m zero e = absurd (omega arith)
  take_first (x ∷ l) m (suc n) e = ap (λ (z : List A). x ∷ z) (take_first l m n (omega arith))

-- one more place is empty
one_more : (filled : List Bool) (n i : ℕ) → length filled ≡ n → i < n → ((k : ℕ) → k < i + 1 → get_or filled k false ≡ true) → ((k : ℕ) → i + 1 ≤ k → get_or filled k false ≡ false)
    → ((k : ℕ) → k < i → get_or (set filled i false) k false ≡ true) × ((k : ℕ) → i ≤ k → get_or (set filled i false) k false ≡ false)
one_more filled n i wide below full empty = (
  (λ k low. get_or-set_other filled i k false false (λ e. absurd (omega arith)) ∙ full k (omega arith)),
  (λ k high. dite (ℕ_discrete k i) (λ e. ap (λ (x : ℕ). get_or (set filled i false) x false) e ∙ get_or-set_same filled i false false (omega arith)) (λ n. get_or-set_other filled i k false false n ∙ empty k (omega arith))),
)

length_set : (l : List Bool) (i : ℕ) (b : Bool) → length (set l i b) ≡ length l
length_set [] i b = refl
length_set (x ∷ l) zero b = refl
length_set (x ∷ l) (suc i) b = ap suc (length_set l i b)

module _ {L G : Type 0} where
  -- The first i values are left, and the lanes after them were taken
  pub record Left (xs : List (Value L G)) (filled : List Bool) (i : ℕ) (lanes : List L) : Type 0 where
    pub wide : length filled ≡ length xs
    pub within : i ≤ length xs
    pub full : (k : ℕ) → k < i → get_or filled k false ≡ true
    pub empty : (k : ℕ) → i ≤ k → get_or filled k false ≡ false
    pub done : lanes_among (take i xs) ++ reverse lanes ≡ lanes_among xs
    pub plain : HasNoDevices (take i xs)

  module _ (xs : List (Value L G)) (filled : List Bool) (i : ℕ) (lanes : List L) (y : Value L G) (at : get_elem? xs i ≡ some y) (h : Left xs filled (i + 1) lanes) where
    pub left_plain : lanes_among (y ∷ []) ≡ [] → Left xs (set filled i false) i lanes
    left_plain none = let s = one_more filled (length xs) i h.wide (let b = h.within in omega arith) h.full h.empty in record {
      wide = length_set filled i false ∙ h.wide;
      within = (let b = h.within in omega arith);
      full = s.0;
      empty = s.1;
      done = took_plain (take (i + 1) xs) (take i xs) y (reverse lanes) (lanes_among xs) (take_more xs i (i + 1) y refl at) none h.done;
      plain = plain_left (take i xs) (y ∷ []) (subst HasNoDevices (take_more xs i (i + 1) y refl at) h.plain);
    }

    pub left_lane : (l : NotedLane L) → y ≡ value.Lane l → Left xs (set filled i false) i (lanes ++ l.device ∷ [])
    left_lane l is = let s = one_more filled (length xs) i h.wide (let b = h.within in omega arith) h.full h.empty in record {
      wide = length_set filled i false ∙ h.wide;
      within = (let b = h.within in omega arith);
      full = s.0;
      empty = s.1;
      done = took_lane (take (i + 1) xs) (take i xs) l lanes (lanes_among xs) (take_more xs i (i + 1) y refl at ∙ ap (λ (z : Value L G). take i xs ++ z ∷ []) is) h.done;
      plain = plain_left (take i xs) (y ∷ []) (subst HasNoDevices (take_more xs i (i + 1) y refl at) h.plain);
    }

    -- there is room for it, where there was for all
    pub left_room : (l : NotedLane L) → y ≡ value.Lane l → length lanes < length (lanes_among xs)
    left_room l is = lane_room (take (i + 1) xs) (take i xs) l lanes (lanes_among xs) (take_more xs i (i + 1) y refl at ∙ ap (λ (z : Value L G). take i xs ++ z ∷ []) is) h.done

    -- it is neither the log nor the list
    pub left_log : (g : NotedLog G) → y ≡ value.Log g → ⊥
    unfolding HasNoDevices
    left_log g is = plain_right (take i xs) (value.Log g ∷ []) (subst HasNoDevices (take_more xs i (i + 1) y refl at ∙ ap (λ (z : Value L G). take i xs ++ z ∷ []) is) h.plain)

    pub left_list : (v : Vec L Global) → y ≡ value.Lanes v → ⊥
    unfolding HasNoDevices
    left_list v is = plain_right (take i xs) (value.Lanes v ∷ []) (subst HasNoDevices (take_more xs i (i + 1) y refl at ∙ ap (λ (z : Value L G). take i xs ++ z ∷ []) is) h.plain)

  -- a slot after the others
  module _ (xs : List (Value L G)) (g : NotedLog G) (list : Vec L Global) (ends : EndsWith g list xs) where
    abbrev m : ℕ
    m = length ends.others

    pub ends_long : length xs ≡ m + 2
    ends_long = ap (λ (l : List (Value L G)). length l) ends.is ∙ length-append (ends.others ++ value.Log g ∷ []) (value.Lanes list ∷ []) ∙ (let a = length-append ends.others (value.Log g ∷ []) in omega arith)

    pub list_last : get_elem? xs (m + 1) ≡ some (value.Lanes list)
    list_last = ap (λ (l : List (Value L G)). get_elem? l (m + 1)) ends.is ∙ right_at (ends.others ++ value.Log g ∷ []) (value.Lanes list ∷ []) (m + 1) 0 (let a = length-append ends.others (value.Log g ∷ []) in omega arith)

    pub log_before : get_elem? xs m ≡ some (value.Log g)
    log_before = ap (λ (l : List (Value L G)). get_elem? l m) ends.is ∙ left_at (ends.others ++ value.Log g ∷ []) (value.Lanes list ∷ []) m (let a = length-append ends.others (value.Log g ∷ []) in omega arith) ∙ right_at ends.others (value.Log g ∷ []) m 0 (omega arith)

    others_are : take m xs ≡ ends.others
    others_are = ap (take m) (ends.is ∙ append_assoc ends.others (value.Log g ∷ []) (value.Lanes list ∷ [])) ∙ take_first ends.others (value.Log g ∷ value.Lanes list ∷ []) m refl

    -- once the list and the log are taken, the others are left
    pub left_others : (filled : List Bool) (lanes : List L) → length filled ≡ length xs → ((k : ℕ) → k < length xs → get_or filled k false ≡ true) → lanes ≡ [] → Left xs (set (set filled (m + 1) false) m false) m lanes
    left_others filled lanes wide full none = let a = ends_long in record {
      wide = length_set (set filled (m + 1) false) m false ∙ length_set filled (m + 1) false ∙ wide;
      within = omega arith;
      full = λ k low. get_or-set_other (set filled (m + 1) false) m k false false (λ e. absurd (omega arith)) ∙ get_or-set_other filled (m + 1) k false false (λ e. absurd (omega arith)) ∙ full k (omega arith);
      empty = λ k high. dite (ℕ_discrete k m) (λ e. ap (λ (x : ℕ). get_or (set (set filled (m + 1) false) m false) x false) e ∙ get_or-set_same (set filled (m + 1) false) m false false (let z = length_set filled (m + 1) false in omega arith))
          (λ n. get_or-set_other (set filled (m + 1) false) m k false false n ∙ dite (ℕ_discrete k (m + 1)) (λ e. ap (λ (x : ℕ). get_or (set filled (m + 1) false) x false) e ∙ get_or-set_same filled (m + 1) false false (omega arith)) (λ o. get_or-set_other filled (m + 1) k false false o ∙ beyond filled k (omega arith)));
      done = ap (λ (l : List L). lanes_among (take m xs) ++ reverse l) none ∙ append-nil (lanes_among (take m xs)) ∙ ap lanes_among others_are ∙ lanes_before xs ends.others g list ends.is;
      plain = subst HasNoDevices (sym others_are) ends.plain;
    }
      where
        beyond : (l : List Bool) (k : ℕ) → length l ≤ k → get_or l k false ≡ false
        beyond [] k h = refl
        beyond (x ∷ l) zero h = absurd (omega arith)
        beyond (x ∷ l) (suc k) h = beyond l k (omega arith)

-- The same, as a loop that takes one value after the other has it
module _ {L G : Type 0} (xs zs : List (Value L G)) (filled : List Bool) (i : ℕ) (lanes : List L) (y : Value L G) (same : zs ≡ xs) (some_left : 0 < i) (h : Left xs filled i lanes) (at : get_elem? zs (i - 1) ≡ some y) where
  abbrev here : get_elem? xs (i - 1) ≡ some y
  here = ap (λ (l : List (Value L G)). get_elem? l (i - 1)) (sym same) ∙ at

  abbrev before : Left xs filled (i - 1 + 1) lanes
  before = subst (λ (k : ℕ). Left xs filled k lanes) {x = i} {y = i - 1 + 1} (omega arith) h

  pub took_other : (filled' : List Bool) → filled' ≡ set filled (i - 1) false → lanes_among (y ∷ []) ≡ [] → Left xs filled' (i - 1) lanes
  took_other filled' is none = subst (λ (f : List Bool). Left xs f (i - 1) lanes) (sym is) (left_plain xs filled (i - 1) lanes y here before none)

  pub took_one : (filled' : List Bool) (l : NotedLane L) (more : List L) → filled' ≡ set filled (i - 1) false → y ≡ value.Lane l → more ≡ lanes ++ l.device ∷ [] → Left xs filled' (i - 1) more
  took_one filled' l more is lane all = subst (Left xs filled' (i - 1)) (sym all) (subst (λ (f : List Bool). Left xs f (i - 1) (lanes ++ l.device ∷ [])) (sym is) (left_lane xs filled (i - 1) lanes y here before l lane))

  pub one_fits : (l : NotedLane L) → y ≡ value.Lane l → length lanes < length (lanes_among xs)
  one_fits l lane = left_room xs filled (i - 1) lanes y here before l lane

  pub no_log : (g : NotedLog G) → y ≡ value.Log g → ⊥
  no_log g is = left_log xs filled (i - 1) lanes y here before g is

  pub no_list : (v : Vec L Global) → y ≡ value.Lanes v → ⊥
  no_list v is = left_list xs filled (i - 1) lanes y here before v is

module _ {L G : Type 0} (xs : List (Value L G)) (g : NotedLog G) (list : Vec L Global) (ends : EndsWith g list xs) (n : ℕ) (counted : n ≡ length xs) where
  pub is_list : (y : Value L G) → get_elem? xs (n - 1) ≡ some y → y ≡ value.Lanes list
  is_list y at = same_item xs (n - 1) (length ends.others + 1) y (value.Lanes list) (let l = ends_long xs g list ends in omega arith) at (list_last xs g list ends)

  pub is_log : (zs : List (Value L G)) (y : Value L G) → zs ≡ xs → get_elem? zs (n - 1 - 1) ≡ some y → y ≡ value.Log g
  is_log zs y same at = same_item xs (n - 1 - 1) (length ends.others) y (value.Log g) (let l = ends_long xs g list ends in omega arith) (ap (λ (l : List (Value L G)). get_elem? l (n - 1 - 1)) (sym same) ∙ at) (log_before xs g list ends)

  pub begins : (filled f f' : List Bool) (lanes : List L) → length filled ≡ length xs → ((k : ℕ) → k < length xs → get_or filled k false ≡ true) → f ≡ set filled (n - 1) false → f' ≡ set f (n - 1 - 1) false → lanes ≡ [] → Left xs f' (n - 1 - 1) lanes
  begins filled f f' lanes wide full a b none = let l = ends_long xs g list ends in let m : ℕ = length ends.others in let p : n - 1 ≡ m + 1 = omega arith in let q : n - 1 - 1 ≡ m = omega arith in
      subst (λ (z : List Bool). Left xs z (n - 1 - 1) lanes) (sym (b ∙ ap (λ (z : List Bool). set z (n - 1 - 1) false) a)) (subst (λ (k : ℕ). Left xs (set (set filled k false) (n - 1 - 1) false) (n - 1 - 1) lanes) (sym p) (subst (λ (k : ℕ). Left xs (set (set filled (m + 1) false) k false) k lanes) (sym q) (left_others xs g list ends filled lanes wide full none)))

-- the list, and the log, that stood there
module _ {L G : Type 0} where
  abbrev list_in : Vec L Global → Value L G → Vec L Global
  list_in l (value.Lanes v) = v
  list_in l _ = l

  abbrev noted_log_in : NotedLog G → Value L G → NotedLog G
  noted_log_in g (value.Log h) = h
  noted_log_in g _ = g

  pub list_room : (list l : Vec L Global) (xs : List (Value L G)) (y : Value L G) → y ≡ value.Lanes list → y ≡ value.Lanes l → list.items ≡ [] → length (lanes_among xs) ≤ vec_capacity list → (l.items ≡ []) × (length (lanes_among xs) ≤ vec_capacity l)
  list_room list l xs y a b none room = let same : list ≡ l = ap (list_in list) (sym a ∙ b) in (subst (λ (v : Vec L Global). v.items ≡ []) same none, subst (λ (v : Vec L Global). length (lanes_among xs) ≤ vec_capacity v) same room)

  pub log_same : (g h : NotedLog G) (y : Value L G) → y ≡ value.Log g → y ≡ value.Log h → h.device ≡ g.device
  log_same g h y a b = ap (λ (x : NotedLog G). x.device) (ap (noted_log_in g) (sym b ∙ a))

  -- once none are left
  pub all_left : (xs : List (Value L G)) (filled : List Bool) (i : ℕ) (lanes : List L) → Left xs filled i lanes → i ≡ 0 → reverse lanes ≡ lanes_among xs
  unfolding lanes_among
  all_left xs filled zero lanes h e = h.done
  all_left xs filled (suc i) lanes h e = absurd (omega arith)

module _ {A : Type 0} where
  -- an item of the first ones is one of all
  pub at_take : (l : List A) (m i : ℕ) (y : A) → get_elem? (take m l) i ≡ some y → (i < m) × (get_elem? l i ≡ some y)
  at_take [] zero i y e = absurd (some-ne-none y (sym e))
  at_take [] (suc m) i y e = absurd (some-ne-none y (sym e))
  at_take (x ∷ l) zero i y e = absurd (some-ne-none y (sym e))
  at_take (x ∷ l) (suc m) zero y e = (omega arith, e)
  at_take (x ∷ l) (suc m) (suc i) y e = let t = at_take l m i y e in (let a = t.0 in omega arith, t.1)

  -- a list, by its two last items
  pub two_last : (l : List A) (m : ℕ) (a b : A) → length l ≡ m + 2 → get_elem? l m ≡ some a → get_elem? l (m + 1) ≡ some b → l ≡ (take m l ++ a ∷ []) ++ b ∷ []
  two_last l m a b long first second = sym (take_all (m + 2) l (omega arith)) ∙ take_more l (m + 1) (m + 2) b (omega arith) second ∙ ap (λ (z : List A). z ++ b ∷ []) (take_more l m (m + 1) a refl first)

none_there : (L G : Type 0) → length (lanes_among {L = L} {G = G} []) ≡ 0
unfolding lanes_among
none_there L G = refl

module _ {L G : Type 0} where
  -- values are plain where each is
  pub plain_each : (l : List (Value L G)) → ((i : ℕ) (y : Value L G) → get_elem? l i ≡ some y → HasNoDevices (y ∷ [])) → HasNoDevices l
  unfolding HasNoDevices
  plain_each [] h = tt
  plain_each (value.Page p ∷ l) h = plain_each l (λ i y e. h (suc i) y e)
  plain_each (value.Map m ∷ l) h = plain_each l (λ i y e. h (suc i) y e)
  plain_each (value.Lane v ∷ l) h = plain_each l (λ i y e. h (suc i) y e)
  plain_each (value.Log g ∷ l) h = absurd (h zero (value.Log g) refl)
  plain_each (value.Lanes v ∷ l) h = absurd (h zero (value.Lanes v) refl)
  plain_each (value.Away ∷ l) h = plain_each l (λ i y e. h (suc i) y e)

  -- The values from a on, so many, are lanes, and no others
  pub record LanesAt (a k : ℕ) (l : List (Value L G)) : Type 0 where
    pub before : (i : ℕ) (y : Value L G) → get_elem? l i ≡ some y → i < a → lanes_among (y ∷ []) ≡ []
    pub there : (q i : ℕ) (y : Value L G) → i ≡ a + q → q < k → get_elem? l i ≡ some y → (v : NotedLane L) × (y ≡ value.Lane v)
    pub behind : (i : ℕ) (y : Value L G) → get_elem? l i ≡ some y → a + k ≤ i → lanes_among (y ∷ []) ≡ []
    pub long : a + k ≤ length l

  -- and so the lanes among them are those
  pub record AreThose (a k : ℕ) (l : List (Value L G)) : Type 0 where
    pub counted : length (lanes_among l) ≡ k
    pub each : (q i : ℕ) (v : NotedLane L) → i ≡ a + q → q < k → get_elem? l i ≡ some (value.Lane v) → get_elem? (lanes_among l) q ≡ some v.device

  no_lane : (y : Value L G) (l : List (Value L G)) → lanes_among (y ∷ []) ≡ [] → lanes_among (y ∷ l) ≡ lanes_among l
  no_lane y l e = lanes_append (y ∷ []) l ∙ ap (λ (z : List L). z ++ lanes_among l) e

  a_lane : (v : NotedLane L) (y : Value L G) (l : List (Value L G)) → y ≡ value.Lane v → lanes_among (y ∷ l) ≡ v.device ∷ lanes_among l
  unfolding lanes_among
  a_lane v y l e = ap (λ (z : Value L G). lanes_among (z ∷ l)) e

  abbrev lane_of : NotedLane L → Value L G → NotedLane L
  lane_of v (value.Lane w) = w
  lane_of v _ = v

  -- one more value before them, one more of them, and one more after them
  those_before : (y : Value L G) (l : List (Value L G)) (a k : ℕ) → lanes_among (y ∷ []) ≡ [] → AreThose a k l → AreThose (suc a) k (y ∷ l)
  those_before y l a k none h = record { counted = ap (λ (z : List L). length z) (no_lane y l none) ∙ h.counted; each = λ q i v is low e. ap (λ (z : List L). get_elem? z q) (no_lane y l none) ∙ moved q i v is low e }
    where
      moved : (q i : ℕ) (v : NotedLane L) → i ≡ suc a + q → q < k → get_elem? (y ∷ l) i ≡ some (value.Lane v) → get_elem? (lanes_among l) q ≡ some v.device
      moved q zero v is low e = absurd (omega arith)
      moved q (suc j) v is low e = h.each q j v (omega arith) low e

  those_lane : (y : Value L G) (l : List (Value L G)) (k : ℕ) (w : NotedLane L) → y ≡ value.Lane w → AreThose 0 k l → AreThose 0 (suc k) (y ∷ l)
  those_lane y l k w lane h = record { counted = ap (λ (z : List L). length z) (a_lane w y l lane) ∙ (let b = h.counted in omega arith); each = λ q i v is low e. ap (λ (z : List L). get_elem? z q) (a_lane w y l lane) ∙ moved q i v is low e }
    where
      moved : (q i : ℕ) (v : NotedLane L) → i ≡ 0 + q → q < suc k → get_elem? (y ∷ l) i ≡ some (value.Lane v) → get_elem? (w.device ∷ lanes_among l) q ≡ some v.device
      moved zero zero v is low e = ap (λ (x : NotedLane L). some x.device) (ap (lane_of w) (sym lane ∙ some-injective y (value.Lane v) e))
      moved zero (suc j) v is low e = absurd (omega arith)
      moved (suc q) zero v is low e = absurd (omega arith)
      moved (suc q) (suc j) v is low e = h.each q j v (omega arith) (omega arith) e

  those_behind : (y : Value L G) (l : List (Value L G)) → lanes_among (y ∷ []) ≡ [] → AreThose 0 0 l → AreThose 0 0 (y ∷ l)
  those_behind y l none h = record { counted = ap (λ (z : List L). length z) (no_lane y l none) ∙ h.counted; each = λ q i v is low e. absurd (omega arith) }

  pub are_those : (l : List (Value L G)) (a k : ℕ) → LanesAt a k l → AreThose a k l
  are_those [] a k h = record { counted = none_there L G ∙ (let b = h.long in omega arith); each = λ q i v is low e. absurd (some-ne-none (value.Lane v) (sym e)) }
  are_those (y ∷ l) (suc a) k h = those_before y l a k (h.before zero y refl (omega arith)) (are_those l a k record {
    before = λ i z e low. h.before (suc i) z e (omega arith);
    there = λ q i z is low e. h.there q (suc i) z (omega arith) low e;
    behind = λ i z e high. h.behind (suc i) z e (omega arith);
    long = (let b = h.long in omega arith);
  })
  are_those (y ∷ l) zero (suc k) h = let lane = h.there 0 0 y refl (omega arith) refl in those_lane y l k lane.0 lane.1 (are_those l 0 k record {
    before = λ i z e low. absurd (omega arith);
    there = λ q i z is low e. h.there (q + 1) (suc i) z (omega arith) (omega arith) e;
    behind = λ i z e high. h.behind (suc i) z e (omega arith);
    long = (let b = h.long in omega arith);
  })
  are_those (y ∷ l) zero zero h = those_behind y l (h.behind zero y refl (omega arith)) (are_those l 0 0 record {
    before = λ i z e low. absurd (omega arith);
    there = λ q i z is low e. absurd (omega arith);
    behind = λ i z e high. h.behind (suc i) z e (omega arith);
    long = omega arith;
  })

  -- a page, a map, and nothing
  abbrev pub IsOther : Value L G → Type 0
  IsOther (value.Page p) = Unit {0}
  IsOther (value.Map m) = Unit {0}
  IsOther (value.Lane l) = ⊥
  IsOther (value.Log g) = ⊥
  IsOther (value.Lanes l) = ⊥
  IsOther value.Away = Unit {0}

  pub other_plain : (y : Value L G) → IsOther y → HasNoDevices (y ∷ [])
  unfolding HasNoDevices
  other_plain (value.Page p) h = tt
  other_plain (value.Map m) h = tt
  other_plain (value.Lane l) h = absurd h
  other_plain (value.Log g) h = absurd h
  other_plain (value.Lanes l) h = absurd h
  other_plain value.Away h = tt

  pub other_lanes : (y : Value L G) → IsOther y → lanes_among (y ∷ []) ≡ []
  unfolding lanes_among
  other_lanes (value.Page p) h = refl
  other_lanes (value.Map m) h = refl
  other_lanes (value.Lane l) h = absurd h
  other_lanes (value.Log g) h = absurd h
  other_lanes (value.Lanes l) h = absurd h
  other_lanes value.Away h = refl

-- a lane is plain, and neither the log nor the list is a lane
pub lane_plain : (L G : Type 0) (l : NotedLane L) → HasNoDevices {L = L} {G = G} (value.Lane l ∷ [])
unfolding HasNoDevices
lane_plain L G l = tt

pub log_lanes : (L G : Type 0) (g : NotedLog G) → lanes_among {L = L} {G = G} (value.Log g ∷ []) ≡ []
unfolding lanes_among
log_lanes L G g = refl

pub list_lanes : (L G : Type 0) (l : Vec L Global) → lanes_among {L = L} {G = G} (value.Lanes l ∷ []) ≡ []
unfolding lanes_among
list_lanes L G l = refl

-- values end with one log
pub one_log : {L G : Type 0} (g h : NotedLog G) (xs : List (Value L G)) (l m : Vec L Global) → EndsWith g l xs → EndsWith h m xs → h.device ≡ g.device
one_log g h xs l m a b = log_same g h (value.Log g) refl (snoc_same a.others b.others (value.Log g) (value.Log h) (snoc_same (a.others ++ value.Log g ∷ []) (b.others ++ value.Log h ∷ []) (value.Lanes l) (value.Lanes m) (sym a.is ∙ b.is)).0).1
