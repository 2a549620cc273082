-- The list that a term stands for, where no call and no ask throws. Chunks, demand and step counts play no part in it.
use Rattle.std.specs.Prelude.{◌≡◌, ◌<◌, ℤ, pos, ◌-ℤ◌, ◌≤ℤ◌, int_le, Bool, true, false, List, [], ◌∷◌, ◌++◌, length}
use Rattle.seq_values.specs.declared.words.Kind.{Kind}
use Rattle.seq_values.specs.declared.words.Kind.TheVariants.{Future}
use Rattle.seq_values.specs.declared.words.Op.TheVariants as O
use Rattle.seq_values.specs.Model.{Value, nil, int, cell, Term}
use Rattle.seq_plan.specs.Plan.{give}
use Rattle.seq_plan.specs.Nodes.{first_of, rest_of, is_truthy, now, asks_for, found}
use Rattle.seq_plan.specs.Lists.{list_of}
use Rattle.seq_plan.specs.Sound.{Sound, SoundList}
use Rattle.seq_plan.specs.Stages.{gathers, is_transducer, stages_of, fresh, standing, enter, complete}
use Rattle.stage_rows.specs.Table.{replaced}
use Rattle.seq_meaning.specs.Counts.{IsIn}
use Rattle.seq_meaning.specs.Evaluates.{term_plan}
use Rattle.seq_table.specs.World.{World, Read, cut, done, ◌▸◌, script_in, Comes, CallTo, Begins}

-- elements before others
abbrev pub ◌▸▸◌ : {C : Type 0} → List (Value C) → Read C → Read C
[] ▸▸ l = l
(x ∷ xs) ▸▸ l = x ▸ (xs ▸▸ l)

infixr 60 ◌▸▸◌
-- the second list after the end of the first
abbrev pub followed : {C : Type 0} → Read C → Read C → Read C
followed cut m = cut
followed done m = m
followed (x ▸ l) m = x ▸ followed l m

-- the first stops where the second goes on, or earlier
pub data CutOf {C : Type 0} : Read C → Read C → Type 0 where
  cut_here : {l : Read C} → CutOf cut l
  cut_done : CutOf done done
  cut_later : {x : Value C} {l l' : Read C} → CutOf l l' → CutOf (x ▸ l) (x ▸ l')

-- the first elements of all lists, and what is left of each
pub data Firsts {C : Type 0} : List (Read C) → List (Value C) → List (Read C) → Type 0 where
  no_firsts : Firsts [] [] []
  a_first : {x : Value C} {l : Read C} {xs : List (Value C)} {ls ms : List (Read C)} → Firsts ls xs ms → Firsts ((x ▸ l) ∷ ls) (x ∷ xs) (l ∷ ms)

-- the first n
pub data Taken {C : Type 0} : ℤ → Read C → Read C → Type 0 where
  taken_all : {n : ℤ} {l : Read C} → int_le n (pos 0) ≡ true → Taken n l done
  taken_cut : {n : ℤ} → Taken n cut cut
  taken_done : {n : ℤ} → int_le n (pos 0) ≡ false → Taken n done done
  taken_more : {n : ℤ} {x : Value C} {l l' : Read C} → int_le n (pos 0) ≡ false → Taken (n -ℤ pos 1) l l' → Taken n (x ▸ l) (x ▸ l')

-- all but the first n
pub data Dropped {C : Type 0} : ℤ → Read C → Read C → Type 0 where
  dropped_cut : {n : ℤ} → Dropped n cut cut
  dropped_none : {n : ℤ} {l : Read C} → int_le n (pos 0) ≡ true → Dropped n l l
  dropped_done : {n : ℤ} → Dropped n done done
  dropped_more : {n : ℤ} {x : Value C} {l l' : Read C} → int_le n (pos 0) ≡ false → Dropped (n -ℤ pos 1) l l' → Dropped n (x ▸ l) l'

-- lists of n elements, the last of which may have fewer
pub data Grouped {C : Type 0} (n : ℤ) : Read C → Read C → Type 0 where
  grouped_cut : {l : Read C} → Grouped n l cut
  grouped_done : Grouped n done done
  grouped_more : (xs : List (Value C)) {l m : Read C} → pos (length xs) ≡ n → Grouped n l m → Grouped n (xs ▸▸ l) (list_of xs ▸ m)
  grouped_last : (xs : List (Value C)) → 0 < length xs → pos (length xs) ≤ℤ n → Grouped n (xs ▸▸ done) (list_of xs ▸ done)

-- x without end
pub data Repeated {C : Type 0} (x : Value C) : Read C → Type 0 where
  repeated_cut : Repeated x cut
  repeated_more : {l : Read C} → Repeated x l → Repeated x (x ▸ l)

-- the terms of which it is shown that what they give begins as their list
pub data HasList {C : Type 0} : Term C → Type 0 where
  has_map : {f c : Value C} → HasList (record { op = O.Map; args = f ∷ c ∷ [] })
  has_filter : {p c : Value C} → HasList (record { op = O.Filter; args = p ∷ c ∷ [] })
  has_keep : {f c : Value C} → HasList (record { op = O.Keep; args = f ∷ c ∷ [] })
  has_near : {c a : Value C} → HasList (record { op = O.Near; args = c ∷ a ∷ [] })
  has_concat : {cs : List (Value C)} → HasList (record { op = O.Concat; args = cs })
  has_mapcat : {f c : Value C} → HasList (record { op = O.Mapcat; args = f ∷ c ∷ [] })
  has_take : {n : ℤ} {c : Value C} → HasList (record { op = O.Take; args = int n ∷ c ∷ [] })
  has_take_while : {p c : Value C} → HasList (record { op = O.TakeWhile; args = p ∷ c ∷ [] })
  has_drop : {n : ℤ} {c : Value C} → HasList (record { op = O.Drop; args = int n ∷ c ∷ [] })
  has_drop_while : {p c : Value C} → HasList (record { op = O.DropWhile; args = p ∷ c ∷ [] })
  has_next : {f x : Value C} → HasList (record { op = O.Next; args = f ∷ x ∷ [] })
  has_repeat : {x : Value C} → HasList (record { op = O.Repeat; args = x ∷ [] })
  has_cycle : {whole c : Value C} → HasList (record { op = O.Cycle; args = whole ∷ c ∷ [] })

module _ {C : Type 0} (w : World C) where
  -- the elements of each of the collections
  pub data EachBegins : List (Value C) → List (Read C) → Type 0 where
    none_begins : EachBegins [] []
    one_begins : {c : Value C} {l : Read C} {cs : List (Value C)} {ls : List (Read C)} → Begins w c l → EachBegins cs ls → EachBegins (c ∷ cs) (l ∷ ls)

  -- the rest of this round, and then the whole again and again
  pub data Cycled (whole : Value C) : Read C → Read C → Type 0 where
    cycled_cut : {l : Read C} → Cycled whole l cut
    cycled_more : {x : Value C} {l m : Read C} → Cycled whole l m → Cycled whole (x ▸ l) (x ▸ m)
    cycled_again : {x : Value C} {l m : Read C} → Begins w whole (x ▸ l) → Cycled whole (x ▸ l) m → Cycled whole done m
    cycled_none : Begins w whole done → Cycled whole done done

  -- one after the other
  pub data Joined : List (Value C) → Read C → Type 0 where
    joined_cut : {cs : List (Value C)} → Joined cs cut
    joined_done : Joined [] done
    joined_more : {c : Value C} {cs : List (Value C)} {l m : Read C} → Begins w c l → Joined cs m → Joined (c ∷ cs) (followed l m)

  -- the values that cells show
  pub data ShownBy : Read C → Read C → Type 0 where
    shown_cut : ShownBy cut cut
    shown_done : ShownBy done done
    shown_more : {c : C} {u : Value C} {l l' : Read C} → w.Shows c u → ShownBy l l' → ShownBy (cell c ▸ l) (u ▸ l')

  module _ (defs : List (Value C)) where
    -- f of each
    pub data Each (f : Value C) : Read C → Read C → Type 0 where
      each_cut : Each f cut cut
      each_done : Each f done done
      each_more : {x y : Value C} {l l' : Read C} → CallTo w defs f (x ∷ []) y → Each f l l' → Each f (x ▸ l) (y ▸ l')

    -- f of the first elements, of the second ones and so on, up to the end of the shortest list
    pub data Zipped (f : Value C) : List (Read C) → Read C → Type 0 where
      zipped_cut : {ls : List (Read C)} → Zipped f ls cut
      zipped_done : {ls : List (Read C)} → IsIn done ls → Zipped f ls done
      zipped_more : {ls ms : List (Read C)} {xs : List (Value C)} {y : Value C} {l : Read C} → Firsts ls xs ms → CallTo w defs f xs y → Zipped f ms l → Zipped f ls (y ▸ l)

    -- those of which p is true
    pub data Sifted (p : Value C) : Read C → Read C → Type 0 where
      sifted_cut : Sifted p cut cut
      sifted_done : Sifted p done done
      sifted_in : {x b : Value C} {l l' : Read C} → CallTo w defs p (x ∷ []) b → is_truthy b ≡ true → Sifted p l l' → Sifted p (x ▸ l) (x ▸ l')
      sifted_out : {x b : Value C} {l l' : Read C} → CallTo w defs p (x ∷ []) b → is_truthy b ≡ false → Sifted p l l' → Sifted p (x ▸ l) l'

    -- the answers of f that aren't nil
    pub data KeptAnswers (f : Value C) : Read C → Read C → Type 0 where
      kept_cut : KeptAnswers f cut cut
      kept_done : KeptAnswers f done done
      kept_in : {x y : Value C} {l l' : Read C} → CallTo w defs f (x ∷ []) y → ¬ (y ≡ nil) → KeptAnswers f l l' → KeptAnswers f (x ▸ l) (y ▸ l')
      kept_out : {x : Value C} {l l' : Read C} → CallTo w defs f (x ∷ []) nil → KeptAnswers f l l' → KeptAnswers f (x ▸ l) l'

    -- those before the first of which p isn't true
    pub data TakenWhile (p : Value C) : Read C → Read C → Type 0 where
      while_cut : TakenWhile p cut cut
      while_done : TakenWhile p done done
      while_in : {x b : Value C} {l l' : Read C} → CallTo w defs p (x ∷ []) b → is_truthy b ≡ true → TakenWhile p l l' → TakenWhile p (x ▸ l) (x ▸ l')
      while_out : {x b : Value C} {l : Read C} → CallTo w defs p (x ∷ []) b → is_truthy b ≡ false → TakenWhile p (x ▸ l) done

    -- those from the first on of which p isn't true
    pub data DroppedWhile (p : Value C) : Read C → Read C → Type 0 where
      until_cut : DroppedWhile p cut cut
      until_done : DroppedWhile p done done
      until_in : {x b : Value C} {l l' : Read C} → CallTo w defs p (x ∷ []) b → is_truthy b ≡ true → DroppedWhile p l l' → DroppedWhile p (x ▸ l) l'
      until_out : {x b : Value C} {l : Read C} → CallTo w defs p (x ∷ []) b → is_truthy b ≡ false → DroppedWhile p (x ▸ l) (x ▸ l)

    -- those of f's answers, one after the other
    pub data Spread (f : Value C) : Read C → Read C → Type 0 where
      spread_cut : {l : Read C} → Spread f l cut
      spread_done : Spread f done done
      spread_more : {x y : Value C} {l m l' : Read C} → CallTo w defs f (x ∷ []) y → Begins w y m → Spread f l l' → Spread f (x ▸ l) (followed m l')

    -- f x, f of that, and so on
    pub data Iterated (f : Value C) : Value C → Read C → Type 0 where
      iterated_cut : {x : Value C} → Iterated f x cut
      iterated_more : {x y : Value C} {l : Read C} → CallTo w defs f (x ∷ []) y → Iterated f y l → Iterated f x (y ▸ l)

    -- a future for a call of f on each
    pub data CallOfEach (f : Value C) : Read C → Read C → Type 0 where
      calls_cut : CallOfEach f cut cut
      calls_done : CallOfEach f done done
      calls_more : {x : Value C} {c : C} {l l' : Read C} → w.IsPart c Future defs (record { op = O.Call; args = f ∷ x ∷ [] }) → CallOfEach f l l' → CallOfEach f (x ▸ l) (cell c ▸ l')

    -- what the completion of stages passes on
    abbrev pub CompletesTo : List (Value C) → List (Value C) → List (Value C) → Type 0
    CompletesTo stages states xs = Comes w defs (complete stages states (gathers []) (λ sink. give (standing [] sink true))) (standing [] (gathers xs) true)

    -- what an input makes stages pass on, with the states after it, and whether all is done
    abbrev pub EntersTo : List (Value C) → List (Value C) → Value C → List (Value C) → List (Value C) → Bool → Type 0
    EntersTo stages states x new xs ends = Comes w defs (enter stages states (gathers []) x (λ after sink over. give (standing after sink over))) (standing new (gathers xs) ends)

    -- the outputs of stages from their states on, the completion's too
    pub data PassedOn (stages : List (Value C)) : List (Value C) → Read C → Read C → Type 0 where
      passed_cut : {states : List (Value C)} {l : Read C} → PassedOn stages states l cut
      passed_end : {states : List (Value C)} (xs : List (Value C)) → CompletesTo stages states xs → PassedOn stages states done (xs ▸▸ done)
      passed_more : {states : List (Value C)} {x : Value C} {l m : Read C} (new xs : List (Value C)) → EntersTo stages states x new xs false → PassedOn stages new l m → PassedOn stages states (x ▸ l) (xs ▸▸ m)
      passed_last : {states : List (Value C)} {x : Value C} {l : Read C} (new xs ys : List (Value C)) → EntersTo stages states x new xs true → CompletesTo stages new ys → PassedOn stages states (x ▸ l) ((xs ++ ys) ▸▸ done)

    -- a clause for each term: the list that it stands for begins with these
    pub data Meant : Term C → Read C → Type 0 where
      of_map : {f c : Value C} {l l' : Read C} → Begins w c l → Each f l l' → Meant (record { op = O.Map; args = f ∷ c ∷ [] }) l'
      of_map_all : {f : Value C} {cs : List (Value C)} {ls : List (Read C)} {l : Read C} → EachBegins cs ls → Zipped f ls l → Meant (record { op = O.MapN; args = f ∷ cs }) l
      of_filter : {p c : Value C} {l l' : Read C} → Begins w c l → Sifted p l l' → Meant (record { op = O.Filter; args = p ∷ c ∷ [] }) l'
      of_keep : {f c : Value C} {l l' : Read C} → Begins w c l → KeptAnswers f l l' → Meant (record { op = O.Keep; args = f ∷ c ∷ [] }) l'
      of_take : {n : ℤ} {c : Value C} {l l' : Read C} → Begins w c l → Taken n l l' → Meant (record { op = O.Take; args = int n ∷ c ∷ [] }) l'
      of_take_while : {p c : Value C} {l l' : Read C} → Begins w c l → TakenWhile p l l' → Meant (record { op = O.TakeWhile; args = p ∷ c ∷ [] }) l'
      of_drop : {n : ℤ} {c : Value C} {l l' : Read C} → Begins w c l → Dropped n l l' → Meant (record { op = O.Drop; args = int n ∷ c ∷ [] }) l'
      of_drop_while : {p c : Value C} {l l' : Read C} → Begins w c l → DroppedWhile p l l' → Meant (record { op = O.DropWhile; args = p ∷ c ∷ [] }) l'
      of_concat : {cs : List (Value C)} {l : Read C} → Joined cs l → Meant (record { op = O.Concat; args = cs }) l
      of_mapcat : {f c : Value C} {l l' : Read C} → Begins w c l → Spread f l l' → Meant (record { op = O.Mapcat; args = f ∷ c ∷ [] }) l'
      of_next : {f x : Value C} {l : Read C} → Iterated f x l → Meant (record { op = O.Next; args = f ∷ x ∷ [] }) l
      of_repeat : {x : Value C} {l : Read C} → Repeated x l → Meant (record { op = O.Repeat; args = x ∷ [] }) l
      of_cycle : {whole c : Value C} {l l' : Read C} → Begins w c l → Cycled whole l l' → Meant (record { op = O.Cycle; args = whole ∷ c ∷ [] }) l'
      of_parts : {n : ℤ} {c : Value C} {l l' : Read C} → Begins w c l → Grouped n l l' → Meant (record { op = O.Parts; args = int n ∷ c ∷ [] }) l'
      of_pull : {xf c : Value C} {states : List (Value C)} {l l' : Read C} → is_transducer xf ≡ true → Begins w c l → PassedOn (stages_of xf) (replaced (fresh (stages_of xf)) states) l l' → Meant (record { op = O.Pull; args = xf ∷ c ∷ states }) l'
      of_rets : {f c : Value C} {l l' : Read C} → Begins w c l → CallOfEach f l l' → Meant (record { op = O.Rets; args = f ∷ c ∷ [] }) l'
      of_derefs : {c : Value C} {l l' : Read C} → Begins w c l → ShownBy l l' → Meant (record { op = O.Derefs; args = c ∷ [] }) l'
      of_step : {x xs vs fs : Value C} {l l' : Read C} → Begins w vs l → ShownBy l l' → Meant (record { op = O.Step; args = x ∷ xs ∷ vs ∷ fs ∷ [] }) l'
      of_near : {c a : Value C} {l : Read C} → Begins w c l → Meant (record { op = O.Near; args = c ∷ a ∷ [] }) l

    -- nothing was read, or what was read stands in the list
    pub data InList (t : Term C) : Read C → Type 0 where
      nothing_read : InList t cut
      so_far : {l l' : Read C} → Meant t l' → CutOf l l' → InList t l

  -- After the elements ys, the list of the term goes on with what v begins with.
  pub data At (defs : List (Value C)) (t : Term C) : List (Value C) → Value C → Type 0 where
    stops : {ys : List (Value C)} {v : Value C} → found v ≡ now nil → Meant defs t (ys ▸▸ done) → At defs t ys v
    shows : {ys : List (Value C)} {v s : Value C} → found v ≡ now s → ¬ (s ≡ nil) → At defs t (ys ++ first_of s ∷ []) (rest_of s) → At defs t ys v
    leads : {ys es : List (Value C)} {v : Value C} {c : C} {kind : Kind} {u : Term C} → found v ≡ asks_for c → w.IsPart c kind es u → HasList u → ((l : Read C) → Meant es u l → Meant defs t (ys ▸▸ l)) → At defs t ys v
    joins : {ys es fs : List (Value C)} {v d : Value C} {k m : C} {kind kind' : Kind} {u : Term C} → found v ≡ asks_for k → w.IsPart k kind es (record { op = O.Concat; args = d ∷ cell m ∷ [] }) → w.IsPart m kind' fs u → HasList u → ((l l' : Read C) → Begins w d l → Meant fs u l' → Meant defs t (ys ▸▸ followed l l')) → At defs t ys v
    is_rest : {ys : List (Value C)} {v : Value C} → ((l : Read C) → Begins w v l → Meant defs t (ys ▸▸ l)) → At defs t ys v

  -- what cells show is sound, and so are the terms of parts
  abbrev pub ShowsSound : Type 0
  ShowsSound = (c : C) (v : Value C) → w.Shows c v → Sound v

  abbrev pub PartsSound : Type 0
  PartsSound = (c : C) (kind : Kind) (defs : List (Value C)) (t : Term C) → w.IsPart c kind defs t → SoundList t.args

  -- a cell gives what its term comes to
  abbrev pub Opens : Type 0
  Opens = (c : C) (kind : Kind) (defs : List (Value C)) (t : Term C) (v : Value C) → w.IsPart c kind defs t → w.Shows c v → Comes w defs (term_plan (script_in w defs) t) v

  -- what a row shows: the value that its term comes to, of sound arguments, is at the beginning of the term's list
  abbrev pub RowOf : Term C → Type 0
  RowOf t = SoundList t.args → (defs : List (Value C)) (v : Value C) → Comes w defs (term_plan (script_in w defs) t) v → At defs t [] v
