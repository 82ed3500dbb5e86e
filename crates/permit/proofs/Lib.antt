mod SpentOnce
