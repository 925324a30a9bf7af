mod Released
