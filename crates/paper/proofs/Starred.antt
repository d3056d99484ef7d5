-- Every case of the table gives what document 01 says, by computation.
use mathlib.Core.Path.{◌≡◌, refl}
use mathlib.Core.List.{◌++◌, map}
use Rattle.paper.specs.Words.{bytes}
use Rattle.paper.specs.Rows.{find, begin, leaving, with_number, states}
use Rattle.paper.specs.Checks.{
  every,
  any,
  row_slice,
  little_room,
  production_fits,
  row_fits,
  range,
  before,
  rising,
  order,
  shape,
  loose,
  same_production,
  split,
  rows_into,
  each_once,
  no_tree,
}
use Rattle.paper.specs.Build.{
  insert,
  give,
  enter,
  walk_in,
  add_string,
  add_strings,
  built,
  joined,
  strings,
  sum,
  build_lengths,
  build_range,
  within,
  build,
}
use Rattle.paper.specs.Unite.{
  agree,
  taken,
  root,
  united_k,
  matched,
  take_row,
  take_rows,
  united,
  unite_tables,
  unite,
}
use Rattle.paper.specs.Shrink.{
  production_of,
  rows_of,
  nodes,
  redirect,
  lead,
  same_rows,
  equal,
  twin,
  twins,
  merge,
  merge_all,
  accepts,
  lowest,
  highest_rows,
  becomes,
  gather,
  gathered,
  place,
  node_production,
  node_rows,
  shrunk,
  shrink_table,
  shrink,
}
use Rattle.paper.specs.Predict.{
  or_else,
  go_by,
  step,
  walk,
  start,
  fallback,
  answer,
  chosen,
  predict_table,
  predict,
}
use Rattle.paper.specs.Explain.{stop, at_end, left_rows, explain, matched_count, stretch_of, stretch}
use Rattle.paper.specs.Text.{
  head_form,
  row_form,
  digits,
  decimal,
  write,
  row_lines,
  text,
  text_out,
  longer,
  lines,
  is_digit,
  digit_count,
  value,
  in_form,
  past,
  and_then,
  read,
  read_line,
  read_rows,
  read_lines,
  text_in,
}
use Rattle.paper.specs.Tabrep.{line, lines_of, report, printed, tabrep}
use Rattle.paper.specs.Lists.{
  begins,
  begins_one,
  begins_some,
  same_string,
  among,
  stands_under,
  become,
  longest_within,
  longest_string,
  longest,
  or_none,
  defined,
}
use Rattle.paper.specs.Cases.{make, run, said, starred, unstarred}

pub worked : map run (starred ++ unstarred) ≡ map said (starred ++ unstarred)
unfolding bytes
    find begin leaving with_number states
    every any row_slice little_room production_fits row_fits range before rising order shape loose same_production
    split rows_into each_once no_tree
    insert give enter walk_in add_string add_strings built strings sum build_lengths build_range within build
    agree taken root united_k matched take_row take_rows united unite_tables unite
    production_of rows_of nodes redirect lead same_rows equal twin twins merge merge_all accepts lowest
    highest_rows becomes gather gathered place node_production node_rows shrunk shrink_table shrink
    or_else go_by step walk start fallback answer chosen predict_table predict
    stop at_end left_rows explain matched_count stretch_of stretch
    head_form row_form digits decimal write row_lines text text_out longer lines is_digit digit_count value in_form
    past and_then read read_line read_rows read_lines text_in
    line lines_of report printed tabrep
    begins begins_one begins_some same_string among stands_under become longest_within longest_string longest
    or_none defined
    joined make run said starred unstarred
worked = refl
