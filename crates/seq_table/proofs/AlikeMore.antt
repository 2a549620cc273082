-- Cells that are related stay so in a larger relation.
use Rattle.std.proofs.Common.{List}
use Rattle.seq_values.specs.Model.{Value, Values, Term}
use Rattle.seq_plan.specs.Alike.{by, Like, like_nil, like_bool, like_int, like_keyword, like_text, like_vector, like_function, like_reduced, like_cell, like_empty, like_cons, like_chunk, like_range, like_vec_seq, LikeAll, like_none, like_more, LikeList, like_end, like_item, LikeTerm, like_term}

module _ {C D : Type 0} {R S : C → D → Type 0} (more : (c : C) (d : D) → R c d → S c d) where
  mutual
    pub more-value : {v : Value C} {w : Value D} → Like (by R) v w → Like (by S) v w
    more-value like_nil = like_nil
    more-value like_bool = like_bool
    more-value like_int = like_int
    more-value like_keyword = like_keyword
    more-value like_text = like_text
    more-value (like_vector h) = like_vector (more-all h)
    more-value (like_function h) = like_function (more-all h)
    more-value (like_reduced h) = like_reduced (more-value h)
    more-value (like_cell r) = like_cell (more _ _ r)
    more-value like_empty = like_empty
    more-value (like_cons n h k) = like_cons n (more-all h) (more-value k)
    more-value (like_chunk n h k) = like_chunk n (more-all h) (more-value k)
    more-value (like_range n) = like_range n
    more-value (like_vec_seq n h) = like_vec_seq n (more-all h)

    pub more-all : {xs : Values C} {ys : Values D} → LikeAll (by R) xs ys → LikeAll (by S) xs ys
    more-all like_none = like_none
    more-all (like_more h k) = like_more (more-value h) (more-all k)

  pub more-list : {xs : List (Value C)} {ys : List (Value D)} → LikeList (by R) xs ys → LikeList (by S) xs ys
  more-list like_end = like_end
  more-list (like_item h k) = like_item (more-value h) (more-list k)

  pub more-term : {t : Term C} {u : Term D} → LikeTerm (by R) t u → LikeTerm (by S) t u
  more-term (like_term h) = like_term (more-list h)
