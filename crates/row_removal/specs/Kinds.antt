-- Nobody need read this to know what a domain promises: it ties the words Inner and Outer of the code to the two lists.
use Rattle.fb_certificate.specs.Lists.{ListKind, inner_list, outer_list}
use Rattle.row_removal.specs.declared.domain_list.DomainList.{DomainList}
use Rattle.row_removal.specs.declared.domain_list.DomainList.TheVariants.{Inner, Outer}

abbrev pub kind_of : DomainList → ListKind
kind_of Inner = inner_list
kind_of Outer = outer_list
