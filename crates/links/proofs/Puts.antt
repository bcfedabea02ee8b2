-- Trees with others put at their leaves c, step by step: `Puts` says the same as `Put` of specs/Language.antt, as a
-- type whose values can be taken apart. One and the same tree can be put at every leaf c, and then each label of the
-- trees is found again in its place, with the new root for c. Assumes nothing.
use Rattle.std.proofs.Common.{◌≡◌, ℕ, suc, ◌⊎◌, sym, refl, ap, ◌∙◌, inl, inr, ⊎_elim, arith}
use Rattle.std.proofs.lemmas.Bool.{cases_eq}
use Rattle.links.specs.Trees.{Trees, none, more, width}
use Rattle.links.specs.Language.{Language, Leaf, Replaced, Put, Product, Step}
use Rattle.links.specs.Locality.{Ranks}
use Rattle.links.specs.Slots.{RootOf, ChildIn}

-- Trees side by side, and what they become: a leaf c gives way to a tree of the set, and each other root stays.
pub data Puts (c : ℕ) (S : Language) : Trees ℕ → Trees ℕ → Type 0 where
  empty : Puts c S none none
  fresh : {vs ts xs : Trees ℕ} {x : ℕ} → Puts c S vs ts → S x xs → Puts c S (more vs c none) (more ts x xs)
  kept : {vs ts us xs : Trees ℕ} {u : ℕ} → Puts c S vs ts → (Leaf c u us → ⊥) → Puts c S us xs → Puts c S (more vs u us) (more ts u xs)

-- no trees, where there are 0
width_none : (ts : Trees ℕ) → width ts ≡ 0 → ts ≡ none
width_none none h = refl
width_none (more ts x xs) h = absurd (omega arith)

-- what stands in a tree alone stands there behind others
pub child_behind : (b i x : ℕ) (ts : Trees ℕ) (y : ℕ) (ys : Trees ℕ) → ChildIn b i x (more none y ys) → ChildIn b i x (more ts y ys)
child_behind b i x ts y ys h = ⊎_elim (λ w. inl w) (λ v. ⊎_elim (λ w. inr (inl w)) (λ w. absurd w) v) h

-- a tree is the leaf c or not
leaf_or_not : (c u : ℕ) (us : Trees ℕ) → Leaf c u us ⊎ (Leaf c u us → ⊥)
leaf_or_not c u none = ⊎_elim (λ e. inl (e, refl)) (λ n. inr (λ l. n l.0)) (cases_eq u c)
leaf_or_not c u (more ts x xs) = inr (λ l. let e : suc (width ts) ≡ 0 = ap width l.1 in omega arith)

-- what `Put` says, taken apart
module _ (c : ℕ) (S : Language) where
  pub puts_taken : (us ts : Trees ℕ) → Put c S us ts → Puts c S us ts
  puts_taken none none p = empty
  puts_taken none (more ts x xs) p = absurd p
  puts_taken (more vs u us) none p = absurd p
  puts_taken (more vs u us) (more ts x xs) p =
      ⊎_elim (λ w. rw (w.0.0, w.0.1) (fresh (puts_taken vs ts p.0) w.1))
      (λ w. rw w.1 (kept (puts_taken vs ts p.0) w.0 (puts_taken us xs w.2)))
      p.1

-- every tree becomes itself where the leaf c is put at each leaf c
put_self : (c : ℕ) (us : Trees ℕ) → Put c (Leaf c) us us
put_self c none = tt
put_self c (more vs u us) = (put_self c vs, ⊎_elim (λ l. inl (l, l)) (λ n. inr (n, refl, put_self c us)) (leaf_or_not c u us))

-- Some trees come of these by trees of Q, and of S too.
abbrev Filled : ℕ → Language → Language → Trees ℕ → Type 0
Filled c Q S us = (ts : Trees ℕ) × Put c Q us ts × Puts c S us ts

-- A tree of the sets Q and S can be put at every leaf c: S keeps what is to be known of it.
module _ (c : ℕ) (Q S : Language) (v : ℕ) (ws : Trees ℕ) (q : Q v ws) (s : S v ws) where
  replaced_some : (vs ts : Trees ℕ) → Puts c S vs ts → (u : ℕ) (us : Trees ℕ) → Filled c Q S us → (x : ℕ) × (xs : Trees ℕ) × Replaced c Q u us x xs (Put c Q us xs) × Puts c S (more vs u us) (more ts x xs)
  replaced_some vs ts p u us w =
      ⊎_elim (λ l. (v, ws, inl (l, q), rw (l.0, l.1) (fresh p s)))
      (λ n. (u, w.0, inr (n, refl, w.1), kept p n w.2))
      (leaf_or_not c u us)

  put_some : (us : Trees ℕ) → Filled c Q S us
  put_some none = (none, tt, empty)
  put_some (more vs u us) =
      let before = put_some vs in
      let w = replaced_some vs before.0 before.2 u us (put_some us) in
      (more before.0 w.0 w.1, (before.1, w.2), w.3)

  pub product_some : (P : Language) (u : ℕ) (us : Trees ℕ) → P u us → (x : ℕ) × (xs : Trees ℕ) × Product c P Q x xs × Puts c S (more none u us) (more none x xs)
  product_some P u us p =
      let w = replaced_some none none empty u us (put_some us) in
      (w.0, w.1, (u, us, p, w.2), w.3)

-- the trees of a part are in step 1 of its closure
pub part_step : (c : ℕ) (P : Language) (x : ℕ) (xs : Trees ℕ) → P x xs → Step c P 1 x xs
part_step c P x xs p = inr (x, xs, p, (put_self c (more none x xs)).1)

pub puts_width : {c : ℕ} {S : Language} {us ts : Trees ℕ} → Puts c S us ts → width ts ≡ width us
puts_width empty = refl
puts_width (fresh p s) = ap suc (puts_width p)
puts_width (kept p n q) = ap suc (puts_width p)

-- Where c has rank 0, a root c is the leaf c.
module _ (rank : ℕ → ℕ) (c : ℕ) (flat : rank c ≡ 0) where
  pub leaf_alone : (u : ℕ) (us : Trees ℕ) → width us ≡ rank u → u ≡ c → Leaf c u us
  leaf_alone u us w e = (e, width_none us (w ∙ ap rank e ∙ flat))

  -- ranks stay right
  pub puts_ranks : {S : Language} {us ts : Trees ℕ} → ((x : ℕ) (xs : Trees ℕ) → S x xs → Ranks rank (more none x xs)) → Puts c S us ts → Ranks rank us → Ranks rank ts
  puts_ranks f empty r = tt
  puts_ranks f (fresh {xs = xs} {x = x} p s) r = let w = f x xs s in (puts_ranks f p r.0, w.1, w.2)
  puts_ranks f (kept p n q) r = (puts_ranks f p r.0, puts_width q ∙ r.1, puts_ranks f q r.2)

  -- A label x is found again as y: the same where it is not c, and the new root where it is.
  module _ (S : Language) (x y : ℕ) (stays : (x ≡ c → ⊥) → y ≡ x) (goes : (z : ℕ) (zs : Trees ℕ) → x ≡ c → S z zs → y ≡ z) where
    pub puts_root : {us ts : Trees ℕ} (i : ℕ) → Puts c S us ts → Ranks rank us → RootOf i x us → RootOf i y ts
    puts_root i empty r h = absurd h
    puts_root i (fresh {xs = zs} {x = z} p s) r h =
        ⊎_elim (λ w. inl (w.0 ∙ ap suc (sym (puts_width p)), goes z zs w.1 s)) (λ w. inr (puts_root i p r.0 w)) h
    puts_root i (kept {us = us} {u = u} p n q) r h =
        ⊎_elim
        (λ w. inl (w.0 ∙ ap suc (sym (puts_width p)), stays (λ e. n (leaf_alone u us r.1 (sym w.1 ∙ e))) ∙ w.1))
        (λ w. inr (puts_root i p r.0 w))
        h

    pub puts_child : {us ts : Trees ℕ} (b i : ℕ) → Puts c S us ts → Ranks rank us → ChildIn b i x us → ChildIn b i y ts
    puts_child b i empty r h = absurd h
    puts_child b i (fresh p s) r h =
        ⊎_elim (λ w. absurd w.1) (λ v. ⊎_elim (λ w. absurd w) (λ w. inr (inr (puts_child b i p r.0 w))) v) h
    puts_child b i (kept p n q) r h =
        ⊎_elim (λ w. inl (w.0, puts_root i q r.2 w.1))
        (λ v. ⊎_elim (λ w. inr (inl (puts_child b i q r.2 w))) (λ w. inr (inr (puts_child b i p r.0 w))) v)
        h

  -- What stands in the tree that is put for c stands in the whole, where there is a c.
  module _ (S : Language) (b i x : ℕ) (there : (z : ℕ) (zs : Trees ℕ) → S z zs → ChildIn b i x (more none z zs)) where
    pub within_root : {us ts : Trees ℕ} (j : ℕ) → Puts c S us ts → Ranks rank us → RootOf j c us → ChildIn b i x ts
    within_root j empty r h = absurd h
    within_root j (fresh {ts = ts} {xs = zs} {x = z} p s) r h = child_behind b i x ts z zs (there z zs s)
    within_root j (kept {us = us} {u = u} p n q) r h =
        ⊎_elim (λ w. absurd (n (leaf_alone u us r.1 (sym w.1)))) (λ w. inr (inr (within_root j p r.0 w))) h

    pub within_child : {us ts : Trees ℕ} (d j : ℕ) → Puts c S us ts → Ranks rank us → ChildIn d j c us → ChildIn b i x ts
    within_child d j empty r h = absurd h
    within_child d j (fresh p s) r h =
        ⊎_elim (λ w. absurd w.1) (λ v. ⊎_elim (λ w. absurd w) (λ w. inr (inr (within_child d j p r.0 w))) v) h
    within_child d j (kept p n q) r h =
        ⊎_elim (λ w. inr (inl (within_root j q r.2 w.1)))
        (λ v. ⊎_elim (λ w. inr (inl (within_child d j q r.2 w))) (λ w. inr (inr (within_child d j p r.0 w))) v)
        h
